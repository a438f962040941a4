-- What the code's answers of the standard library stand for in the definitions.
use Prim.Native.Nat as native
use Rattle.std.specs.Prelude.{Option, None, Some}
use Rattle.std.specs.declared.cmp.Ordering.{Ordering}
use Rattle.std.specs.declared.cmp.Ordering.TheVariants.{Less, Equal, Greater}
use Rattle.std.proofs.Math.Option as maybe

-- a value, or none
abbrev pub option_of : {A : Type 0} → Option A → maybe.Option A
option_of None = maybe.none
option_of (Some a) = maybe.some a

-- an order
abbrev pub order_of : Ordering → native.Ordering
order_of Less = native.Ordering.lt
order_of Equal = native.Ordering.eq
order_of Greater = native.Ordering.gt
