-- The capitals of the bytes before i are copied.
use Prim.Native.Nat.{◌-◌}
use borrow.Author.Rules.{rules}
use lib.ListN.{length, length-map, length-set}
use mathlib.Core.List.{map}
use mathlib.Core.Path.{◌∙◌, ◌≡◌, refl, sym}
use Rattle.definitions.specs.Alleles.{capital}
use Rattle.laws.proofs.Capitals.{capital_at}
use Rattle.kv_write.proofs.Copying.{Copied, copied_all, copied_next}
use Rattle.kv_write.proofs.copy_letters.Given as goal

abbrev pub invariant-loop-i : goal.invariant-loop-i
invariant-loop-i l = (length l.to ≡ length l.bytes) × Copied (map capital l.bytes) l.to l.i
