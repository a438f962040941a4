-- The theorem, `TwoOrdersOfCombine` of specs/: the lists that the two calls wrote agree.
use lib.ListN.{length}
use Rattle.demands.specs.TwoOrdersOfCombine.{TwoOrdersOfCombine}
use Rattle.demands.proofs.ListWritten.{list_written}
use Rattle.demands.proofs.TwoOrders.{two_orders}

pub two_orders_of_combine : TwoOrdersOfCombine
two_orders_of_combine t1 t2 c1 c2 reference scratch1 scratch1' out1 out1' scratch2 scratch2' out2 out2' n1 n2
    same-clip given1 given2 read1 read2 re call1 call2 =
    two_orders t1 t2 c1 c2 (length scratch1) (length scratch2) (length out1) (length out2) reference _ _
    same-clip given1 given2 read1 read2 re (list_written call1) (list_written call2)
