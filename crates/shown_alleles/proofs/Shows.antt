-- What a sample shows of a record, by the bytes of its alleles: `shows_as_read`.
use Prim.Native.Nat.{◌+◌, ◌-◌, ◌<◌, ◌≤◌, suc, zero, ℕ}
use borrow.Author.Tests.{leb-true}
use lib.Dec.{eqb}
use lib.ListN.{get_or-append, get_or, length}
use mathlib.Core.Bool.{Bool, ◌&&◌, true}
use mathlib.Core.List.{List, [], ◌++◌, ◌∷◌, flat_map, map}
use mathlib.Core.Option.{Option, none, some}
use mathlib.Core.Path.{◌∙◌, ◌≡◌, ap, refl, sym}
use native.Mathlib.Omega.{arith}
use Rattle.definitions.specs.Alleles.{Allele, RefAlts, allele_of, alleles_of, capital, genotype_count, letters, letters_of, non_ref, ref_alts_from, same_allele}
use Rattle.definitions.specs.Genotypes.{AllelePair, genotype_pairs, least}
use Rattle.definitions.specs.Lists.{all_of, any_of, is_there, numbers_from}
use Rattle.definitions.specs.SelectionSheet.{in_least_pair, pair_has, wanted_allele}
use Rattle.laws.proofs.AllelesAsRead.{allele_as_read, letters_allele, letters_as_read, ref_alts_as_read_lem, ref_alts_as_read, same_as_read}
use Rattle.laws.proofs.Capitals.{same_letters}
use Rattle.laws.proofs.Every.{Every, IfThere, also, every_at, every_passed}
use Rattle.laws.proofs.Genotypes.{genotype_pairs_append, genotype_pairs_length, genotype_pairs_at}
use Rattle.laws.proofs.Tests.{after_bind, after_only_if, both_of, is_there_lem}
use Rattle.shown_alleles.specs.Shown.{no_pair, shows_any}

any_same : (p q : ℕ → Bool) (first n : ℕ) → ((i : ℕ) → i < first + n → p i ≡ q i) → any_of p (numbers_from first n) ≡ any_of q (numbers_from first n)
unfolding any_of numbers_from
any_same p q first zero h = refl
any_same p q first (suc n) h = rw (h first (omega arith), any_same p q (suc first) n (λ i b. h i (omega arith)))

-- ---- the pairs of fewer alleles stand at the same places

pair_same : (n i : ℕ) → n ≤ 16 → i < genotype_count n → get_or (genotype_pairs n) i no_pair ≡ get_or (genotype_pairs 16) i no_pair
pair_same n i few h =
    let all : n + (16 - n) ≡ 16 = omega arith in
    let rest : List AllelePair = flat_map genotype_pairs_at (numbers_from n (16 - n)) in
    let split : genotype_pairs 16 ≡ genotype_pairs n ++ rest = ap genotype_pairs (sym all) ∙ genotype_pairs_append n (16 - n) in
    let there : i < length (genotype_pairs n) = rw (genotype_pairs_length n) h in
    sym (rw split (get_or-append (genotype_pairs n) rest no_pair i there))

pub least_16 : (n allele : ℕ) (pl : Option (List ℕ)) → n ≤ 16 → IfThere (λ l. length l ≡ genotype_count n) pl → in_least_pair n allele pl ≡ in_least_pair 16 allele pl
unfolding in_least_pair
least_16 n allele none few h = refl
least_16 n allele (some l) few h =
    any_same _ _ 0 (length l)
    (λ i b. ap (λ (p : AllelePair). eqb (get_or l i 0) (least l) && pair_has allele p) (pair_same n i few (omega (arith, h))))

-- ---- an allele by its bytes

get_map : {A B : Type 0} (f : A → B) (l : List A) (i : ℕ) (d : A) (e : B) → i < length l → get_or (map f l) i e ≡ f (get_or l i d)
get_map f [] i d e h = absurd (omega arith)
get_map f (x ∷ l) zero d e h = refl
get_map f (x ∷ l) (suc i) d e h = get_map f l i d e (omega arith)

wanted_there : (v : List ℕ) → is_there (wanted_allele v) ≡ true → is_there (allele_of 255 v) ≡ true
unfolding wanted_allele is_there
wanted_there v h =
    let (a, e) = is_there_lem _ h in
    after_bind (allele_of 255 v) _ e λ b there only. rw there

module _ (wanted ref : List ℕ) (alts : List (List ℕ)) (pl : Option (List ℕ)) where
  abbrev count : ℕ
  count = suc (length alts)

  -- some allele of the record is the wanted one and stands in a genotype of least PL
  abbrev pub shows_allele : Bool
  shows_allele =
      any_of
      (λ a. same_allele (allele_as_read wanted) (get_or (alleles_of (ref_alts_as_read ref alts)) a non_ref) && in_least_pair (suc (length alts)) a pl)
      (numbers_from 0 (suc (length alts)))

  module _ (may : is_there (wanted_allele wanted) ≡ true) (is-ref : is_there (letters_of 255 ref) ≡ true)
      (are-alts : all_of (λ f. is_there (allele_of 255 f)) alts ≡ true) where
    all_there : Every (λ f. is_there (allele_of 255 f) ≡ true) (ref ∷ alts)
    all_there = also (letters_allele 255 ref is-ref) (every_passed (λ f. is_there (allele_of 255 f)) alts are-alts)

    allele_is : (a : ℕ) → a < count → get_or (alleles_of (ref_alts_as_read ref alts)) a non_ref ≡ allele_as_read (get_or (ref ∷ alts) a [])
    unfolding alleles_of ref_alts_as_read
    allele_is a h =
        ap (λ (x : Allele). get_or (x ∷ map allele_as_read alts) a non_ref) (sym (letters_as_read 255 ref is-ref))
        ∙ get_map allele_as_read (ref ∷ alts) a [] non_ref h

    same_is_wanted : (a : ℕ) → a < count
        → same_allele (allele_as_read wanted) (get_or (alleles_of (ref_alts_as_read ref alts)) a non_ref) ≡ same_letters wanted (get_or (ref ∷ alts) a [])
    same_is_wanted a h =
        ap (same_allele (allele_as_read wanted)) (allele_is a h)
        ∙ same_as_read 255 wanted (get_or (ref ∷ alts) a []) (wanted_there wanted may) (every_at a [] h all_there)

    by_bytes : count ≤ 16 → IfThere (λ l. length l ≡ genotype_count count) pl → shows_allele ≡ shows_any wanted (ref ∷ alts) pl 0 count
    unfolding shows_any
    by_bytes few long = any_same _ _ 0 count (λ a h. let below : a < count = omega arith in rw (same_is_wanted a below, least_16 count a pl few long))

  pub shows_as_read : is_there (wanted_allele wanted) ≡ true → (r : RefAlts) → ref_alts_from 255 16 ref alts ≡ some r
      → IfThere (λ l. length l ≡ genotype_count (suc (length alts))) pl → shows_allele ≡ shows_any wanted (ref ∷ alts) pl 0 (suc (length alts))
  shows_as_read may r e long =
      after_only_if _ _ (sym (ref_alts_as_read_lem 255 16 ref alts) ∙ e) λ tests same.
      let (few, rest) = both_of _ _ tests in
      let (is-ref, later) = both_of _ _ rest in
      let (are-alts, none-twice) = both_of _ _ later in
      by_bytes may is-ref are-alts (leb-true count 16 few) long
