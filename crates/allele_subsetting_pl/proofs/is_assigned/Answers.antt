-- The GT is looked through for an ALT.
use Prim.Native.Nat.{ℕ}
use borrow.Author.Rules.{rules}
use borrow.Author.Tests.{eq-eqb, eqb-true, ne_eqb}
use lib.Dec.{eqb}
use mathlib.Core.Bool.{Bool, ◌||◌, false, true}
use mathlib.Core.List.{List, [], ◌∷◌}
use mathlib.Core.Path.{◌∙◌, ◌≡◌, ap, refl, sym}
use Rattle.std.specs.List.{list_any}
use Rattle.allele_subsetting_pl.specs.KeepLists.{is_assigned}
use Rattle.definitions.specs.Lists.{any_of}
use Rattle.allele_subsetting_pl.proofs.is_assigned.Goals as goal

eqb_either : (a b : ℕ) → eqb a b ≡ eqb b a
eqb_either a b = go (eqb a b) refl
  where
    go : (t : Bool) → eqb a b ≡ t → eqb a b ≡ eqb b a
    go true e = e ∙ sym (eq-eqb b a (sym (eqb-true a b e)))
    go false e = e ∙ sym (ne_eqb b a (λ same. let z = sym e ∙ eq-eqb a b (sym same) in cc))

any_either : (a : ℕ) (gt : List ℕ) → list_any (λ y. eqb y a) gt ≡ any_of (eqb a) gt
unfolding any_of
any_either a [] = refl
any_either a (x ∷ gt) = rw (eqb_either x a, any_either a gt)

pub returns-else-number-eq0 : goal.returns-else-number-eq0
returns-else-number-eq0 c =
    let a = c.args.allele.0 in
    c.contains.ensures.value ∙ any_either c.get-number.result c.args.gt.now ∙ rw c.get-number.ensures (simp (ne_eqb a 0 (λ e. c.if-number-eq0.false (c.get-number.ensures ∙ e))))
