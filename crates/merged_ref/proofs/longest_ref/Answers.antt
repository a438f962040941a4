-- From the last site on, as the definition does.
use denote.Ref.{Bor}
use mathlib.Core.List.{List, [], ◌++◌, ◌∷◌, map, map-append, reverse, reverse-append}
use mathlib.Core.Path.{◌∙◌, ◌≡◌, ap, refl, sym}
use Prim.Native.Nat.{ℕ}
use Rattle.std.proofs.lemmas.Iterator.Adapters.{YieldsList-from_rev_slice}
use Rattle.std.proofs.lemmas.Iterator.Consumers.{YieldsList-end}
use Rattle.std.proofs.lemmas.List.{reverse-reverse}
use Rattle.std.specs.Prelude as std
use Rattle.merged_ref.specs.Answers.{longer_site, longest_site}
use Rattle.merged_ref.proofs.longest_ref.Goals as goal

-- one more site in front
one_more : (s rows : List ℕ) (position : ℕ) (ys : List (Bor ℕ)) (x : Bor ℕ) {best next : std.Option ℕ}
    → best ≡ longest_site s rows position (reverse (map (λ y. y.now) ys)) → next ≡ longer_site s rows position x.now best
    → next ≡ longest_site s rows position (reverse (map (λ y. y.now) (ys ++ (x ∷ []))))
unfolding longest_site
one_more s rows position ys x e f =
    let now = λ (y : Bor ℕ). y.now in
    let in_front : reverse (map now (ys ++ (x ∷ []))) ≡ x.now ∷ reverse (map now ys) =
    ap reverse (map-append now ys (x ∷ [])) ∙ reverse-append (map now ys) (x.now ∷ []) in
    rw (f, e) (sym (ap (longest_site s rows position) in_front))

pub loop-site-init : goal.loop-site-init
unfolding longest_site
loop-site-init c = refl

pub loop-site-preserved : goal.loop-site-preserved
loop-site-preserved c = one_more _ _ _ c.loop-site.yielded c.in-Some.site c.loop-site.invariant c.longer_ref-best.ensures

pub returns : goal.returns
returns c =
    let all = YieldsList-end (YieldsList-from_rev_slice c.args.found.now cc) c.loop-site.yielded _ c.loop-site.yielded_by _ _ c.in-None.is c.next.ensures.steps in
    let longest = longest_site c.args.s.now c.args.rows.now c.args.position.0 in
    c.loop-site.invariant ∙ ap (λ l. longest (reverse l)) all.0 ∙ ap longest (reverse-reverse c.args.found.now)
