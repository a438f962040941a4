-- What `all` answers, site by site.
use Prim.Native.Nat.{ℕ}
use mathlib.Core.Bool.{Bool, ◌&&◌}
use mathlib.Core.List.{List, [], ◌∷◌, map}
use mathlib.Core.Path.{◌∙◌, ◌≡◌, ap, refl, sym}
use Rattle.std.proofs.Common.{rules, tests}
use Rattle.std.proofs.lemmas.Iterator.{YieldsList-from_slice, cases_from_all}
use Rattle.answers.proofs.Chains.{Fails, Passes, all_answer}
use Rattle.definitions.specs.Alleles.{capital}
use Rattle.definitions.specs.Bytes.{is_prefix}
use Rattle.definitions.specs.Lists.{all_of, filter_by}
use Rattle.merged_ref.proofs.Starting.{tested}
use Rattle.merged_ref.specs.Answers.{sites_at, starting_refs}
use Rattle.merged_ref.proofs.refs_agree.Goals as goal

module _ (s rows : List ℕ) (position : ℕ) (longest : List ℕ) where
  abbrev agree : List ℕ → Bool
  agree found = all_of (λ ref. is_prefix ref (map capital longest)) (starting_refs position (sites_at s rows found))

  -- all agree if each does by itself
  each_alone : (found : List ℕ) → all_of (λ site. agree (site ∷ [])) found ≡ agree found
  unfolding all_of starting_refs filter_by
  each_alone [] = refl
  each_alone (site ∷ found) =
      ap (λ (b : Bool). agree (site ∷ []) && b) (each_alone found)
      ∙ sym (tested (λ ref. is_prefix ref (map capital longest)) position _ _)

pub returns : goal.returns
returns c =
    let alone = λ (site : ℕ). agree c.args.s.now c.args.rows.now c.args.position.0 c.args.longest.now (site ∷ []) in
    all_answer alone c.args.found.now c.all.result
    (cases_from_all _ _ _ (Passes alone) (Fails alone) c.all.ensures.ran (YieldsList-from_slice c.args.found.now cc)
    (λ x q k. search (rules, tests)) (λ x q k. search (rules, tests)))
    ∙ each_alone c.args.s.now c.args.rows.now c.args.position.0 c.args.longest.now c.args.found.now
