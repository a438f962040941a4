-- The slices' order is that of the definitions.
use Prim.Native.Nat.{◌<◌, ℕ, compare}
use Prim.Native.Nat as native
use mathlib.Core.List.{List, [], ◌∷◌}
use mathlib.Core.Path.{◌∙◌, ◌≡◌, ap, refl}
use Rattle.std.proofs.lemmas.Cmp.{ranked}
use Rattle.std.specs.Cmp.Lexicographic.{slice_cmp}
use Rattle.std.specs.Ordering.{MatchOrdering, nat_cmp, ordering_then}
use Rattle.std.specs.declared.cmp.Ordering.{Ordering}
use Rattle.std.specs.declared.cmp.Ordering.TheVariants.{Less, Equal, Greater}
use Rattle.answers.specs.Options.{order_of}
use Rattle.definitions.specs.Bytes.{and_then, compare_bytes}
use Rattle.laws.proofs.Orders.{compare_refl, gt_compare, lt_compare}
use Rattle.kv_text.proofs.compare_bytes.Goals as goal

heads : (x y : ℕ) (o later : Ordering) {rest : native.Ordering} → MatchOrdering o (x < y) (x ≡ y) (y < x) → order_of later ≡ rest
    → order_of (ordering_then o later) ≡ and_then (compare x y) rest
unfolding and_then
heads x y Less later h e = rw (lt_compare x y h)
heads x y Equal later h e = rw (h, compare_refl y) e
heads x y Greater later h e = rw (gt_compare x y h)

slices : (a b : List ℕ) → order_of (slice_cmp nat_cmp a b) ≡ compare_bytes a b
unfolding compare_bytes
slices [] [] = refl
slices [] (y ∷ b) = refl
slices (x ∷ a) [] = refl
slices (x ∷ a) (y ∷ b) = heads x y (nat_cmp x y) (slice_cmp nat_cmp a b) (ranked x y _ refl) (slices a b)

pub returns : goal.returns
returns c = ap order_of c.cmp.ensures ∙ slices _ _
