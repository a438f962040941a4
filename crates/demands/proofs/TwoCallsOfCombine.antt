-- The theorem, `TwoCallsOfCombine` of specs/: demand 3 of the lists that the two calls wrote.
use lib.ListN.{length}
use Rattle.demands.specs.TwoCallsOfCombine.{TwoCallsOfCombine}
use Rattle.demands.proofs.Demand3.{demand3}
use Rattle.demands.proofs.ListWritten.{list_written}

pub two_calls : TwoCallsOfCombine
two_calls t1 t2 c1 c2 scratch1 scratch1' out1 out1' scratch2 scratch2' out2 out2' n1 n2 same-clip read1 read2 ins call1 call2 =
    demand3 t1 t2 c1 c2 (length scratch1) (length scratch2) (length out1) (length out2) _ _
    same-clip read1 read2 ins (list_written call1) (list_written call2)
