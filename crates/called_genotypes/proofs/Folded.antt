-- PL and AD without an allele x: the alleles besides it by number, PL at a pair of them, and how many values there are.
-- Assumes nothing.
use Prim.Native.Nat.{◌+◌, ◌-◌, ◌<◌, ◌≤◌, min, suc, zero, ℕ}
use borrow.Author.Tests.{eq-eqb, le-leb, le-ltb, lt-leb, lt-ltb, ne_eqb}
use lib.Dec.{eqb}
use lib.ListN.{drop, drop_of_length-le, get_or, get_elem?, length, length-append, length-map, set, take}
use lib.Seq.{drop-cons, sets, take_all}
use mathlib.Core.Bool.{Bool, false, not}
use mathlib.Core.List.{List, [], ◌++◌, ◌∷◌, append-nil, map}
use mathlib.Core.Option
use mathlib.Core.Option.{Option, some}
use mathlib.Core.Path.{◌∙◌, ◌≡◌, ap, ap₂, refl, sym}
use native.Mathlib.Decide.{dec_lt}
use native.Mathlib.Nat.{zero-add}
use native.Mathlib.Numerals.{add-one}
use native.Mathlib.Omega.{arith}
use Rattle.bio_ids.specs.declared.AlleleIndex.{AlleleIndex}
use Rattle.definitions.specs.Alleles.{genotype_count}
use Rattle.definitions.specs.CalledGenotypes.{non_ref_pls, normalized_pl, pl_without_allele, pl_without_allele_at}
use Rattle.definitions.specs.CalledList.{without_index}
use Rattle.definitions.specs.Genotypes.{AllelePair, genotype_index_any, genotype_pairs, least}
use Rattle.definitions.specs.Lists.{filter_by, numbers_from}
use Rattle.diploid_pairs.proofs.Places.{pair_at_place, pair_there, same_pair, there_pair}
use Rattle.diploid_pairs.specs.Pairs.{pair_of}
use Rattle.diploid_pairs.specs.declared.AllelePair as source
use Rattle.std.specs.Prelude as std
use Rattle.genotype_values.proofs.Mapped.{count_is, no_pair, product_bound}
use Rattle.genotype_values.specs.Remapped.{Filled}
use Rattle.kv_write.proofs.Laying.{laid_append}
use Rattle.kv_write.specs.Laid.{Laid}
use Rattle.laws.proofs.Every.{Every, also, every_map, nothing}
use Rattle.laws.proofs.Genotypes.{genotype_pairs_below, genotype_pairs_length, least_le}
use Rattle.laws.proofs.Members.{append_at_left, append_at_right, at_below, filter_append, filter_no, get_d_some, length_numbers, member_at, numbers_append, numbers_at_lem}
use Rattle.laws.proofs.SoundValues.{GenotypeBelow}
use Rattle.sample_alleles.proofs.Readings.{rest}
use Rattle.called_genotypes.specs.Values.{PlWithout, folded_pl, is_dropped, retained_allele, retained_pl_at}

-- a value of the pair at a place of n alleles
pub value_there : (f : AllelePair → ℕ) (n place : ℕ) → n ≤ 16 → place < genotype_count n
    → Option.get_or (Option.map f (get_elem? (genotype_pairs 16) place)) 0 ≡ f (get_or (genotype_pairs n) place no_pair)
value_there f n place l h =
    let there = pair_there n (pair_at_place n place h) in
    rw (← same_pair n 16 place l h, there, get_d_some (genotype_pairs n) place no_pair there)

-- two functions that agree on each element
pub map_same : {A B : Type 0} (f g : A → B) {l : List A} → Every (λ a. f a ≡ g a) l → map f l ≡ map g l
map_same f g nothing = refl
map_same f g (also h hs) = rw (h, map_same f g hs)

-- ---- the alleles besides x

-- the numbers but x
abbrev others : ℕ → ℕ → Bool
others x a = not (eqb a x)

-- all of those among which x is not
all_others : (x first count : ℕ) → ((k : ℕ) → first ≤ k → k < first + count → k ≡ x → ⊥)
    → filter_by (others x) (numbers_from first count) ≡ numbers_from first count
unfolding numbers_from filter_by
all_others x first zero h = refl
all_others x first (suc count) h =
    let apart : eqb first x ≡ false = ne_eqb first x (h first (omega arith) (omega arith)) in
    let rest = all_others x (suc first) count (λ k l m. h k (omega arith) (omega arith)) in
    rw (apart, rest)

module _ (n x : ℕ) (below : x < n) where
  abbrev retained : List ℕ
  retained = filter_by (others x) (numbers_from 0 n)

  retained_is : retained ≡ numbers_from 0 x ++ numbers_from (suc x) (n - suc x)
  unfolding numbers_from
  retained_is =
      let cut : n ≡ x + suc (n - suc x) = omega arith in
      ap (λ (m : ℕ). filter_by (others x) (numbers_from 0 m)) cut
      ∙ ap (filter_by (others x)) (numbers_append 0 x (suc (n - suc x)))
      ∙ filter_append (others x) (numbers_from 0 x) (numbers_from (0 + x) (suc (n - suc x)))
      ∙ ap₂ (λ (a b : List ℕ). a ++ b) (all_others x 0 x (λ k l m. λ e. omega arith)) behind
    where
      behind : filter_by (others x) (numbers_from (0 + x) (suc (n - suc x))) ≡ numbers_from (suc x) (n - suc x)
      behind =
          rw (zero-add x)
          (filter_no (others x) x (numbers_from (suc x) (n - suc x)) (rw (eq-eqb x x refl))
          ∙ all_others x (suc x) (n - suc x) (λ k l m. λ e. omega arith))

  retained_length : length retained ≡ n - 1
  retained_length =
      ap length retained_is
      ∙ length-append (numbers_from 0 x) (numbers_from (suc x) (n - suc x))
      ∙ omega (arith, length_numbers 0 x, length_numbers (suc x) (n - suc x))

  retained_at : (i : ℕ) → suc i < n → get_or retained i 0 ≡ retained_allele x i
  unfolding retained_allele
  retained_at i h = get_d_some retained i 0 (ap (λ (l : List ℕ). get_elem? l i) retained_is ∙ go (dec_lt i x))
    where
      go : Dec (i < x) → get_elem? (numbers_from 0 x ++ numbers_from (suc x) (n - suc x)) i ≡ some (retained_allele x i)
      go (yes l) =
          append_at_left (numbers_from 0 x) (numbers_from (suc x) (n - suc x)) i (numbers_at_lem 0 x i l)
          ∙ rw (lt-ltb i x l, zero-add i)
      go (no l) =
          let k : suc x + (i - x) ≡ suc i = omega arith in
          append_at_right (numbers_from 0 x) (numbers_from (suc x) (n - suc x)) (i - x) i (omega (arith, length_numbers 0 x))
          ∙ numbers_at_lem (suc x) (n - suc x) (i - x) (omega arith)
          ∙ rw (le-ltb i x (omega arith), k)

  -- ---- PL

  -- PL by pairs of them, with the least subtracted
  pub folded_is : (pl : List ℕ) → normalized_pl (folded_pl (n - 1) x pl) ≡ pl_without_allele n x pl
  unfolding pl_without_allele folded_pl retained_pl_at
  folded_is pl = ap normalized_pl (rw retained_length (map_same _ _ (every_map same (genotype_pairs_below (n - 1)))))
    where
      same : (p : AllelePair) → GenotypeBelow (n - 1) p
          → pl_without_allele_at pl x (retained_allele x p.low) (retained_allele x p.high)
          ≡ pl_without_allele_at pl x (get_or retained p.low 0) (get_or retained p.high 0)
      same p b =
          ap₂ (pl_without_allele_at pl x)
          (sym (retained_at p.low (omega (arith, b.ordered, b.below))))
          (sym (retained_at p.high (omega (arith, b.below))))

pub folded_length : (m x : ℕ) (pl : List ℕ) → length (folded_pl m x pl) ≡ genotype_count m
unfolding folded_pl
folded_length m x pl = length-map (genotype_pairs m) (retained_pl_at pl x) ∙ genotype_pairs_length m

pub folded_few : (m x : ℕ) (pl : List ℕ) → m ≤ 16 → length (folded_pl m x pl) ≤ 136
folded_few m x pl h = omega (arith, folded_length m x pl, count_is m, product_bound m h)

pub normalized_length : (pl : List ℕ) → length (normalized_pl pl) ≡ length pl
unfolding normalized_pl
normalized_length pl = length-map pl (λ p. p - least pl)

pub without_length : (n x : ℕ) (pl : List ℕ) → x < n → length (pl_without_allele n x pl) ≡ genotype_count (n - 1)
without_length n x pl h = ap length (sym (folded_is n x h pl)) ∙ normalized_length (folded_pl (n - 1) x pl) ∙ folded_length (n - 1) x pl

-- no PL is below the least
pub least_below : (pl : List ℕ) (i : ℕ) → i < length pl → least pl ≤ get_or pl i 0
least_below pl i h =
    let (a, e) = at_below pl i h in
    rw (get_d_some pl i 0 e) (least_le pl (member_at pl i e))

-- ---- PL of one pair

-- the alleles of a pair of the table
pub few_alleles : (place : ℕ) (pair : source.AllelePair) → pair_of (std.Some pair) ≡ get_elem? (genotype_pairs 16) place → (pair.0 < 255) × (pair.1 < 255)
unfolding pair_of
few_alleles place pair e =
    let (q, same) = there_pair 16 place (sym e) in
    let l = ap (λ (p : AllelePair). p.low) same in
    let h = ap (λ (p : AllelePair). p.high) same in
    (omega (arith, q.ordered, q.below), omega (arith, q.below))

-- what is at a place, by the alleles of its pair
pub pair_folded : (pl : List ℕ) (x : ℕ) (pair : source.AllelePair) {o : Option AllelePair} {a b r : ℕ} → pair_of (std.Some pair) ≡ o
    → a ≡ retained_allele x pair.0 → b ≡ retained_allele x pair.1 → r ≡ pl_without_allele_at pl x a b
    → r ≡ Option.get_or (Option.map (retained_pl_at pl x) o) 0
unfolding pair_of retained_pl_at
pair_folded pl x pair e p q h = rw (← e) (h ∙ rw (p, q))

pub no_pair_folded : (pl : List ℕ) (x : ℕ) {o : Option AllelePair} → pair_of std.None ≡ o → 0 ≡ Option.get_or (Option.map (retained_pl_at pl x) o) 0
unfolding pair_of
no_pair_folded pl x e = rw (← e)

module _ (pl : List ℕ) (x a b : ℕ) {own with : ℕ} (o : own ≡ get_or pl (genotype_index_any a b) 0)
    (w : with ≡ get_or pl (genotype_index_any b x) 0) where
  -- of 0/0
  pub both_ref : {twice r : ℕ} → twice ≡ get_or pl (genotype_index_any x x) 0 → a ≡ 0 → b ≡ 0 → r ≡ min with (min twice own)
      → r ≡ pl_without_allele_at pl x a b
  unfolding pl_without_allele_at non_ref_pls least
  both_ref t e f h = h ∙ rw (o, w, t, eq-eqb a b (e ∙ sym f), eq-eqb a 0 e, eq-eqb b 0 f)

  -- of 0/a
  pub low_ref : {r : ℕ} → a ≡ 0 → (b ≡ 0 → ⊥) → r ≡ min with own → r ≡ pl_without_allele_at pl x a b
  unfolding pl_without_allele_at non_ref_pls least
  low_ref e f h = h ∙ rw (o, w, ne_eqb a b (λ q. f (sym q ∙ e)), eq-eqb a 0 e, ne_eqb b 0 f)

  -- of a/a
  pub same_allele_lem : {r : ℕ} → (a ≡ 0 → ⊥) → a ≡ b → r ≡ min with own → r ≡ pl_without_allele_at pl x a b
  unfolding pl_without_allele_at non_ref_pls least
  same_allele_lem e f h = h ∙ rw (o, w, eq-eqb a b f, ne_eqb a 0 e)

  -- of any other pair
  pub other_pair : (a ≡ 0 → ⊥) → (a ≡ b → ⊥) → own ≡ pl_without_allele_at pl x a b
  unfolding pl_without_allele_at non_ref_pls least
  other_pair e f = o ∙ rw (ne_eqb a b f, ne_eqb a 0 e)

-- ---- the answers

module _ {n x : ℕ} {pl before : List ℕ} where
  pub too_few : n < 2 → PlWithout n x pl before before 0
  unfolding is_dropped
  too_few h = record { values = rw (lt-leb 2 n h); count = rw (lt-leb 2 n h) }

  pub too_many : 2 ≤ n → 16 < n → PlWithout n x pl before before 0
  unfolding is_dropped
  too_many h k = record { values = rw (le-leb 2 n h, lt-leb n 16 k); count = rw (le-leb 2 n h, lt-leb n 16 k) }

  pub not_there : 2 ≤ n → n ≤ 16 → n ≤ x → PlWithout n x pl before before 0
  unfolding is_dropped
  not_there h k l = record { values = rw (le-leb 2 n h, le-leb n 16 k, le-ltb x n l); count = rw (le-leb 2 n h, le-leb n 16 k, le-ltb x n l) }

  module _ (least-two : 2 ≤ n) (few : n ≤ 16) (below : x < n) where
    pub dropped_pl : {after front : List ℕ} {r : ℕ} → front ≡ folded_pl (n - 1) x pl → r ≡ length (folded_pl (n - 1) x pl)
        → after ≡ sets before 0 (normalized_pl front) → PlWithout n x pl before after r
    unfolding is_dropped
    dropped_pl e c h =
        let counted = c ∙ sym (normalized_length (folded_pl (n - 1) x pl)) ∙ ap length (folded_is n x below pl) in
        record {
          values = rw (le-leb 2 n least-two, le-leb n 16 few, lt-ltb x n below) (h ∙ ap (λ (l : List ℕ). sets before 0 l) (ap normalized_pl e ∙ folded_is n x below pl));
          count = rw (le-leb 2 n least-two, le-leb n 16 few, lt-ltb x n below) counted;
        }

    pub pl_filled : {after : List ℕ} {r : ℕ} → PlWithout n x pl before after r → Filled (pl_without_allele n x pl) before after r
    unfolding is_dropped
    pl_filled p = record {
      laid = rw (le-leb 2 n least-two, le-leb n 16 few, lt-ltb x n below) at p.values;
      count = rw (le-leb 2 n least-two, le-leb n 16 few, lt-ltb x n below) at p.count;
    }

-- ---- AD

pub none_dropped : (x : ℕ) (ad : List ℕ) → length ad ≤ x → without_index x ad ≡ ad
unfolding without_index
none_dropped x ad h = rw (take_all x ad h, drop_of_length-le ad {i = suc x} (omega arith), append-nil ad)

-- a value is stored
pub value_laid : {before after : List ℕ} {place x : ℕ} → after ≡ set before place x → Laid before place (x ∷ []) after (place + 1)
value_laid e = record { next = refl; laid = e }

pub next_value : (values : List ℕ) (i : ℕ) → i < length values → drop i values ≡ get_or values i 0 ∷ drop (i + 1) values
next_value values i h = rw (add-one, drop-cons values i 0)

pub laid_filled : {values before after : List ℕ} {r : ℕ} → Laid before 0 values after r → Filled values before after r
laid_filled {values} l = record { laid = l.laid; count = l.next ∙ zero-add (length values) }

-- what stands before the entry of x, and what stands behind it
pub parts_stored : (x : ℕ) (ad : List ℕ) {k : ℕ} {d d1 d2 : List ℕ} {at1 at2 : ℕ} → k ≡ x → Laid d 0 (take k ad) d1 at1
    → Laid d1 at1 (take (length ad - (k + 1)) (drop (k + 1) ad)) d2 at2 → Filled (without_index x ad) d d2 at2
unfolding without_index
parts_stored x ad {k} e p q = laid_filled (rw (← e, ← add-one k) (laid_append p (rw (rest ad (k + 1)) at q)))
