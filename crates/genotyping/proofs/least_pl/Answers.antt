-- `min` finds the least.
use Prim.Native.Nat.{min, ℕ}
use mathlib.Core.List.{List, [], ◌∷◌, foldr}
use mathlib.Core.Path.{◌∙◌, ◌≡◌, ap, refl, sym}
use native.Mathlib.Omega.{arith}
use Rattle.std.specs.Option.{unwrap_or}
use Rattle.std.proofs.lemmas.Iterator.{YieldsList-from_slice}
use Rattle.std.proofs.lemmas.Iterator.Adapters.{option_map_id}
use Rattle.std.proofs.lemmas.Iterator.Consumers.{YieldsList-from_copied, min_from_yields_List}
use Rattle.std.specs.List.{fold, reduce}
use Rattle.std.specs.Prelude.{Option}
use Rattle.definitions.specs.Genotypes.{least}
use Rattle.genotyping.proofs.Least.{foldr_min_min}
use Rattle.genotyping.proofs.least_pl.Goals as goal

folded : (x : ℕ) (xs : List ℕ) → fold min x xs ≡ foldr min x xs
folded x [] = refl
folded x (y ∷ ys) =
    let e : min x y ≡ min y x = omega arith in
    folded (min x y) ys ∙ rw e (foldr_min_min y x ys)

least_found : (pl : List ℕ) → unwrap_or (reduce min pl) 0 ≡ least pl
unfolding least
least_found [] = refl
least_found (x ∷ xs) = folded x xs

pub returns : goal.returns
returns c =
    let pl = c.args.pl.now in
    let found = sym (option_map_id _) ∙ min_from_yields_List c.copied.result _ c.min.ensures.ran (YieldsList-from_copied (YieldsList-from_slice pl cc)) in
    c.unwrap_or.ensures ∙ ap (λ (r : Option ℕ). unwrap_or r 0) found ∙ least_found pl
