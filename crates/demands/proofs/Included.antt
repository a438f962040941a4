-- What the proofs of demand 3 and of two orders ask of two cohorts: `Included`. It follows where samples are put in (`Inserted` of specs/),
-- and both ways where the second is the first in another order (`Reordered`).
use Prim.Native.Nat.{ℕ}
use mathlib.Core.Bool.{true}
use mathlib.Core.List.{List}
use mathlib.Core.Path.{◌∙◌, ◌≡◌, ap, subst, sym}
use Rattle.definitions.specs.Bytes.{same_bytes}
use Rattle.definitions.specs.Cohort.{Cohort}
use Rattle.definitions.specs.Lists.{all_of, filter_by}
use Rattle.laws.proofs.Bytes.{is_same, same_is}
use Rattle.laws.proofs.Every.{every_member, every_passed}
use Rattle.laws.proofs.Members.{◌∈◌, any_member, filter_within, map_same, member_any, member_filter}
use Rattle.demands.specs.Inserted.{Inserted, NamedSite, is_one_of}
use Rattle.demands.specs.Reordered.{Reordered, sites_named}

-- each of the first cohort's names is one of the second's, wherever it stands, and has the same sites in the same order
pub record Included (old new : Cohort) : Type 0 where
  pub names : (n : List ℕ) → is_one_of old.names n ≡ true → is_one_of new.names n ≡ true
  pub sites : (n : List ℕ) → is_one_of old.names n ≡ true → sites_named old n ≡ sites_named new n

pub inserted_included : (old new : Cohort) → Inserted old new → Included old new
unfolding is_one_of sites_named
inserted_included old new ins = record {
  names = λ n h.
      let (found, m, same) = any_member _ _ h in
      let among = subst (λ (l : List (List ℕ)). found ∈ l) (sym ins.names) m in
      member_any _ _ (member_filter _ _ among).0 same;
  sites = λ n h.
      let (found, m, same) = any_member _ _ h in
      let one : (t : NamedSite) → same_bytes n t.name ≡ true → is_one_of old.names t.name ≡ true =
      λ t k. member_any _ _ m (is_same (sym (same_is _ _ k) ∙ same_is _ _ same)) in
      let first = filter_by (λ (t : NamedSite). same_bytes n t.name) in
      sym (ap first ins.sites) ∙ filter_within _ _ _ one;
}

one_there : (names1 names2 : List (List ℕ)) → all_of (is_one_of names2) names1 ≡ true → (n : List ℕ)
    → is_one_of names1 n ≡ true → is_one_of names2 n ≡ true
unfolding is_one_of
one_there names1 names2 all n h =
    let (found, m, same) = any_member _ _ h in
    let is = same_is n found same in
    rw is (every_member m (every_passed (is_one_of names2) names1 all))

same_sites : {c1 c2 : Cohort} → Reordered c1 c2 → (n : List ℕ) → is_one_of c1.names n ≡ true → sites_named c1 n ≡ sites_named c2 n
unfolding is_one_of
same_sites {c1} {c2} r n h =
    let (found, m, same) = any_member _ _ h in
    let is = same_is n found same in
    rw is (map_same (sites_named c1) (sites_named c2) c1.names r.sites m)

pub reordered_forth : {c1 c2 : Cohort} → Reordered c1 c2 → Included c1 c2
reordered_forth {c1} {c2} r = record { names = one_there c1.names c2.names r.names_there; sites = same_sites r }

pub reordered_back : {c1 c2 : Cohort} → Reordered c1 c2 → Included c2 c1
reordered_back {c1} {c2} r =
    let back = one_there c2.names c1.names r.names_back in
    record { names = back; sites = λ n h. sym (same_sites r n (back n h)) }
