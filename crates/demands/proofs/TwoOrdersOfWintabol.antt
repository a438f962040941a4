-- The theorem, `TwoOrdersOfWintabol` of specs/: a call that answered 0 wrote its list, as a call of the entry does.
use Rattle.demands.specs.TwoOrdersOfWintabol.{TwoOrdersOfWintabol}
use Rattle.demands.proofs.TwoCallsOfWintabol.{as_written}
use Rattle.demands.proofs.TwoOrdersOfCombine.{two_orders_of_combine}

pub two_exported_orders : TwoOrdersOfWintabol
two_exported_orders t1 t2 c1 c2 reference scratch1 scratch1' out1 out1' scratch2 scratch2' out2 out2' n1 n2
    same-clip given1 given2 read1 read2 re call1 call2 =
    two_orders_of_combine t1 t2 c1 c2 reference scratch1 scratch1' out1 out1' scratch2 scratch2' out2 out2' n1 n2
    same-clip given1 given2 read1 read2 re (as_written call1) (as_written call2)
