-- `called_data_sound` and `called_alleles`: what a called record says is sound, without `<NON_REF>`.
use Prim.Native.Nat.{◌+◌, ◌-◌, ◌<◌, ◌≤◌, suc, zero, ℕ}
use borrow.Author.Tests.{eq-eqb, ne_eqb}
use lib.Dec.{eqb}
use lib.ListN.{drop, get_or, length, length-append, length-drop, length-map, length-take, take}
use mathlib.Core.Bool.{Bool, ◌||◌, false, not, true}
use mathlib.Core.List.Memᴰ
use mathlib.Core.List.{List, ◌∷◌, map}
use mathlib.Core.Option
use mathlib.Core.Option.{Option, none, some}
use mathlib.Core.Path.{◌∙◌, ◌≡◌, ap, refl}
use native.Mathlib.Decide.{ℕ_discrete}
use native.Mathlib.Omega.{arith}
use Rattle.definitions.specs.Alleles.{Allele, RefAlts, alleles_of, genotype_count, has_non_ref, non_ref, only_non_ref, same_allele}
use Rattle.definitions.specs.CalledGenotypes.{gq_from_pl, non_ref_pls, normalized_pl, pl_without_allele, pl_without_allele_at}
use Rattle.definitions.specs.CalledList.{called_data, non_ref_number, without_index}
use Rattle.definitions.specs.Genotypes.{AllelePair, SampleData, genotype_index_any, genotype_pairs, least}
use Rattle.definitions.specs.Lists.{any_of, filter_by, index_where, numbers_from}
use Rattle.definitions.specs.Numbers.{max_number}
use Rattle.laws.proofs.Decimals.{InRange}
use Rattle.laws.proofs.Every.{Every, IfThere, Pairwise, all_distinct_lem, all_distinct_back, alone, also, before_all, every_all, every_append, every_drop, every_filter, every_map, every_member, every_of_map, every_or, index_below, nothing, pairwise_filter, pairwise_head, pairwise_tail}
use Rattle.laws.proofs.Genotypes.{genotype_pairs_length, least_le}
use Rattle.laws.proofs.Members.{filter_all, filter_no, filter_yes}
use Rattle.laws.proofs.RecordReadBack.{ReadAlleles}
use Rattle.laws.proofs.SoundRecords.{SoundAlleles, SoundSampleData}
use Rattle.laws.proofs.SoundValues.{Counted}
use Rattle.laws.proofs.Tests.{both, clash}
use Rattle.laws.proofs.Alleles.{allele_is}

-- ---- PL, GQ and AD without an allele

-- the other numbers, where x stands before them, and where it is one of them
others_all : (x first count : ℕ) → x < first → length (filter_by (λ a. not (eqb a x)) (numbers_from first count)) ≡ count
unfolding numbers_from
others_all x first zero h = unfold filter_by in refl
others_all x first (suc count) h =
    ap length (filter_yes (λ a. not (eqb a x)) first (numbers_from (suc first) count) (rw (ne_eqb first x (λ e. omega arith))))
    ∙ ap suc (others_all x (suc first) count (omega arith))

others_count : (x first count : ℕ) → first ≤ x → x < first + count
    → suc (length (filter_by (λ a. not (eqb a x)) (numbers_from first count))) ≡ count
unfolding numbers_from
others_count x first zero h k = absurd (omega arith)
others_count x first (suc count) h k = go (ℕ_discrete first x) (others_count x (suc first) count)
  where
    rest : List ℕ
    rest = numbers_from (suc first) count

    go : Dec (first ≡ x)
        → (suc first ≤ x → x < suc first + count → suc (length (filter_by (λ a. not (eqb a x)) rest)) ≡ count)
        → suc (length (filter_by (λ a. not (eqb a x)) (first ∷ rest))) ≡ suc count
    go (yes e) below =
        ap suc
        (ap length (filter_no (λ a. not (eqb a x)) first rest (rw (eq-eqb first x e))) ∙ others_all x (suc first) count (omega arith))
    go (no e) below =
        ap suc (ap length (filter_yes (λ a. not (eqb a x)) first rest (rw (ne_eqb first x e))) ∙ below (omega arith) (omega arith))

normalized_counted : (count : ℕ) (pl : List ℕ) → Counted count pl → Counted count (normalized_pl pl)
unfolding normalized_pl
normalized_counted count pl c = record {
  how_many = length-map pl (λ p. p - least pl) ∙ c.how_many;
  in_range_lem = every_of_map (λ p. p - least pl) (every_map (λ p (r : InRange p). omega arith) c.in_range_lem);
}

pl_at_range : (pl : List ℕ) (x a b : ℕ) → Every InRange pl → InRange (pl_without_allele_at pl x a b)
unfolding pl_without_allele_at
pl_at_range pl x a b h =
    let own : ℕ = get_or pl (genotype_index_any a b) 0 in
    let in_range_lem : InRange own = every_or (genotype_index_any a b) 0 (omega arith) h in
    omega (arith, least_le (own ∷ non_ref_pls pl x a b) (Memᴰ.head refl))

pl_without : (n x : ℕ) (pl : List ℕ) → x < n → Every InRange pl → Counted (genotype_count (n - 1)) (pl_without_allele n x pl)
unfolding pl_without_allele
pl_without n x pl below h =
    let retained : List ℕ = filter_by (λ a. not (eqb a x)) (numbers_from 0 n) in
    let count : length retained ≡ n - 1 = omega (arith, others_count x 0 n (omega arith) (omega arith)) in
    let at : AllelePair → ℕ = λ p. pl_without_allele_at pl x (get_or retained p.low 0) (get_or retained p.high 0) in
    normalized_counted (genotype_count (n - 1)) (map at (genotype_pairs (length retained))) (record {
      how_many = length-map (genotype_pairs (length retained)) at ∙ genotype_pairs_length (length retained) ∙ ap genotype_count count;
      in_range_lem = every_of_map at (every_all (λ p. pl_at_range pl x _ _ h) (genotype_pairs (length retained)));
    })

every_take : {P : ℕ → Type 0} (k : ℕ) {l : List ℕ} → Every P l → Every P (take k l)
every_take zero h = nothing
every_take (suc k) nothing = nothing
every_take (suc k) (also h hs) = also h (every_take k hs)

ad_without : (n x : ℕ) (ad : List ℕ) → x < n → Counted n ad → Counted (n - 1) (without_index x ad)
unfolding without_index
ad_without n x ad below c = record {
  how_many = omega (arith, length-append (take x ad) (drop (suc x) ad), length-take x ad, length-drop (suc x) ad, c.how_many);
  in_range_lem = every_append (every_take x c.in_range_lem) (every_drop (suc x) c.in_range_lem);
}

gq_range : (pl : List ℕ) → InRange (gq_from_pl pl)
unfolding gq_from_pl max_number
gq_range pl = omega arith

-- a fact of a value that is made of another
if_made : {A B : Type 0} {P : A → Type 0} (Q : B → Type 0) (f : A → B) (o : Option A) → ((a : A) → P a → Q (f a)) → IfThere P o
    → IfThere Q (Option.map f o)
if_made Q f none k h = tt
if_made Q f (some a) k h = k a h

-- what is said of a sample
pub called_data_sound : (n x : ℕ) (v : SampleData) → x < n → SoundSampleData n v → SoundSampleData (n - 1) (called_data n x v)
unfolding called_data
called_data_sound n x v below s =
    let pl = if_made (Counted (genotype_count (n - 1))) (pl_without_allele n x) v.pl
    (λ pl c. pl_without n x pl below c.in_range_lem) s.pl in
    record {
      gt = tt;
      gq = if_made InRange gq_from_pl (Option.map (pl_without_allele n x) v.pl) (λ pl h. gq_range pl) pl;
      dp = s.dp;
      mindp = tt;
      ad = if_made (Counted (n - 1)) (without_index x) v.ad (λ ad c. ad_without n x ad below c) s.ad;
      pl = pl;
    }

-- ---- the alleles

-- `<NON_REF>` is one of them; REF is where there is none
pub non_ref_below : (a : RefAlts) → non_ref_number a < length (alleles_of a)
unfolding non_ref_number alleles_of
non_ref_below a = go (index_where (same_allele non_ref) (alleles_of a)) (index_below (same_allele non_ref) (alleles_of a))
  where
    go : (o : Option ℕ) → IfThere (λ i. i < length (alleles_of a)) o → Option.get_or o 0 < length (alleles_of a)
    go none h = omega arith
    go (some k) h = h

-- the ALTs but `<NON_REF>`
abbrev pub other_alts : List Allele → List Allele
other_alts = filter_by (λ a. not (same_allele non_ref a))

-- of distinct ALTs with `<NON_REF>`, all but one
other_alts_count : {alts : List Allele} → Pairwise (λ a b. same_allele a b ≡ false) alts → any_of (same_allele non_ref) alts ≡ true
    → suc (length (other_alts alts)) ≡ length alts
unfolding any_of
other_alts_count alone h = clash h refl
other_alts_count (before_all {x = a} {xs = as'} d ds) h = go (same_allele non_ref a) refl h (other_alts_count ds)
  where
    go : (b : Bool) → same_allele non_ref a ≡ b → (b || any_of (same_allele non_ref) as') ≡ true
        → (any_of (same_allele non_ref) as' ≡ true → suc (length (other_alts as')) ≡ length as')
        → suc (length (other_alts (a ∷ as'))) ≡ suc (length as')
    go true e k below =
        let others : Every (λ b. same_allele non_ref b ≡ false) as' = rw (← allele_is non_ref a e) at d in
        ap suc (ap length (filter_no (λ a. not (same_allele non_ref a)) a as' (rw e)
        ∙ filter_all (λ a. not (same_allele non_ref a)) as' (λ b m. ap not (every_member m others))))
    go false e k below =
        ap suc (ap length (filter_yes (λ a. not (same_allele non_ref a)) a as' (rw e)) ∙ below k)

module _ {longest count : ℕ} (r : RefAlts) (s : SoundAlleles longest count r) where
  distinct : Pairwise (λ a b. same_allele a b ≡ false) (alleles_of r)
  distinct = all_distinct_back same_allele (alleles_of r) s.all_distinct_lem

  pub one_less : suc (length (other_alts r.alts)) ≡ length r.alts
  unfolding alleles_of has_non_ref
  one_less = other_alts_count (pairwise_tail distinct) s.non_ref

  -- with another ALT, they read without `<NON_REF>`
  pub called_alleles : only_non_ref r ≡ false → ReadAlleles longest count (record { ref = r.ref; alts = other_alts r.alts })
  unfolding alleles_of only_non_ref
  called_alleles h = record {
    ref = s.ref;
    alts = every_filter _ r.alts s.alts;
    at_least_two = more (ℕ_discrete (length r.alts) 1);
    at_most = omega (arith, one_less, s.at_most);
    all_distinct_lem = all_distinct_lem same_allele
        (before_all (every_filter _ r.alts (pairwise_head distinct)) (pairwise_filter _ (pairwise_tail distinct)));
  }
    where
      more : Dec (length r.alts ≡ 1) → 1 ≤ length (other_alts r.alts)
      more (yes e) = clash (both (eq-eqb (length r.alts) 1 e) s.non_ref) h
      more (no e) = omega (arith, one_less, s.at_least_two)
