-- What is left to store are the values from i on.
use Prim.Native.Nat.{◌+◌}
use lib.ListN.{drop_of_length-le}
use mathlib.Core.Path.{◌≡◌, refl}
use native.Mathlib.Omega.{arith}
use Rattle.called_genotypes.proofs.Folded.{next_value, value_laid}
use Rattle.kv_write.proofs.Laying.{done, one, recast, start}
use Rattle.called_genotypes.proofs.store_values.Goals as goal

pub loop-i-init : goal.loop-i-init
loop-i-init c = let e : c.args.place + 0 ≡ c.args.place = omega arith in rw e (start (c.requires))

pub loop-i-preserved : goal.loop-i-preserved
loop-i-preserved c =
    let e : c.args.place + c.loop-i.i + 1 ≡ c.args.place + (c.loop-i.i + 1) = omega arith in
    rw e at (one (value_laid (c.store.ensures)) (recast (next_value _ _ (c.loop-i-test.true)) (c.loop-i.invariant)))

pub returns : goal.returns
returns c = record { next = refl; laid = (done (recast (drop_of_length-le _ (c.loop-i-test.false)) (c.loop-i.invariant))).laid }
