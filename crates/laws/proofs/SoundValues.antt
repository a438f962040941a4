-- Values as files have them, and that what reads as one is one: numbers, names, letters, alleles and genotypes.
use Prim.Native.Nat.{◌<◌, ◌≤◌, ℕ}
use borrow.Author.Tests.{leb-true}
use lib.Dec.{leb, ltb}
use lib.ListN.{length}
use mathlib.Core.Bool.{Bool, ◌&&◌, cond, false, true}
use mathlib.Core.List.{List, [], ◌∷◌}
use mathlib.Core.Option.{Option, map, none, some}
use mathlib.Core.Path.{◌≡◌, ap, refl, subst}
use native.Mathlib.Omega.{arith}
use Rattle.definitions.specs.Alleles.{Allele, allele_of, is_letter, letters, letters_of, non_ref, span_del, spelled}
use Rattle.definitions.specs.Bytes.{comma, fields_of, same_bytes, text}
use Rattle.definitions.specs.Genotypes.{AllelePair}
use Rattle.definitions.specs.Limits.{max_name_length}
use Rattle.definitions.specs.ListReader.{gt_below, gt_of}
use Rattle.definitions.specs.Lists.{all_of}
use Rattle.definitions.specs.Numbers.{digits_value, is_digit, is_name_byte, max_number, name, no_leading_zero, number, number_list, or_missing}
use Rattle.laws.proofs.Decimals.{InRange}
use Rattle.laws.proofs.Every.{Every, IfThere, all_some_back, all_some_length}
use Rattle.laws.proofs.Fields.{fields_cons}
use Rattle.laws.proofs.Tests.{after_bind, after_only_if, all_three, both_of, not_none, some_same}

-- a value, or `.` for a missing one
pub or_missing_back : {A : Type 0} (P : A → Type 0) (read : List ℕ → Option A) (s : List ℕ) (o : Option A)
    → ((a : A) → read s ≡ some a → P a) → or_missing read s ≡ some o → IfThere P o
unfolding or_missing
or_missing_back {A} P read s o f e = go (same_bytes s (text ".")) (read s) o f e
  where
    go : (b : Bool) (r o : Option A) → ((a : A) → r ≡ some a → P a)
        → cond b (some none) (map some r) ≡ some o → IfThere P o
    go b r none f e = tt
    go true r (some a) f e = not_none (some_same e)
    go false none (some a) f e = not_none e
    go false (some c) (some a) f e = f a (some_same e)

-- ---- number and number_list

-- numbers of a list: one at least
pub record Numbers (ns : List ℕ) : Type 0 where
  pub some_number : 0 < length ns
  pub in_range_lem : Every InRange ns

-- so many numbers
pub record Counted (count : ℕ) (ns : List ℕ) : Type 0 where
  pub how_many : length ns ≡ count
  pub in_range_lem : Every InRange ns

pub counted : {n : ℕ} {ns : List ℕ} → 0 < n → Counted n ns → Numbers ns
counted h c = record { some_number = omega arith; in_range_lem = c.in_range_lem }

-- one number to so many
pub record CountedTo (most : ℕ) (ns : List ℕ) : Type 0 where
  pub some_number : 1 ≤ length ns
  pub at_most : length ns ≤ most
  pub in_range_lem : Every InRange ns

pub number_sound : (s : List ℕ) (n : ℕ) → number s ≡ some n → InRange n
unfolding number
number_sound s n e = after_only_if _ _ e λ t p.
    let small = (both_of (all_of is_digit s && no_leading_zero s) (leb (digits_value s) max_number) t).1 in
    subst InRange p (leb-true _ _ small)

pub numbers_sound : (s : List ℕ) (ns : List ℕ) → number_list s ≡ some ns → Numbers ns
unfolding number_list
numbers_sound s ns e =
    let (f, fs, cut) = fields_cons comma s in
    let long : length ns ≡ length (fields_of comma s) = all_some_length number (fields_of comma s) ns e in
    record {
      some_number = omega (arith, ap length cut);
      in_range_lem = all_some_back InRange number (fields_of comma s) ns number_sound e;
    }

pub number_or_missing_sound : (s : List ℕ) (o : Option ℕ) → or_missing number s ≡ some o → IfThere InRange o
number_or_missing_sound s o = or_missing_back InRange number s o (number_sound s)

pub list_or_missing_sound : (s : List ℕ) (o : Option (List ℕ)) → or_missing number_list s ≡ some o → IfThere Numbers o
list_or_missing_sound s o = or_missing_back Numbers number_list s o (numbers_sound s)

-- ---- name

-- a name, or the name of a contig
pub record Name (s : List ℕ) : Type 0 where
  pub not_empty : 1 ≤ length s
  pub not_too_long : length s ≤ max_name_length
  pub name_bytes : all_of is_name_byte s ≡ true

pub name_sound : (s n : List ℕ) → name s ≡ some n → Name n
unfolding name
name_sound s n e = after_only_if _ _ e λ t p.
    let (u, v, w) = all_three _ _ _ t in
    subst Name p (record { not_empty = leb-true _ _ u; not_too_long = leb-true _ _ v; name_bytes = w })

-- ---- letters_of and allele_of

-- letters as REF and ALT have them
pub record Letters (most : ℕ) (s : List ℕ) : Type 0 where
  pub some_letter : 1 ≤ length s
  pub not_too_long : length s ≤ most
  pub all_letters : all_of is_letter s ≡ true

pub letters_sound : (most : ℕ) (s r : List ℕ) → letters_of most s ≡ some r → Letters most r
unfolding letters_of
letters_sound most s r e = after_only_if _ _ e λ t p.
    let (u, v, w) = all_three _ _ _ t in
    subst (Letters most) p (record { some_letter = leb-true _ _ u; not_too_long = leb-true _ _ v; all_letters = w })

-- an allele whose letters, if it has any, are at most so many
abbrev pub SoundAllele : ℕ → Allele → Type 0
SoundAllele most (letters s) = Letters most s
SoundAllele most span_del = Unit {0}
SoundAllele most non_ref = Unit {0}

pub allele_sound : (most : ℕ) (s : List ℕ) (a : Allele) → allele_of most s ≡ some a → SoundAllele most a
unfolding allele_of
allele_sound most s a e =
    go (same_bytes s (spelled span_del)) (same_bytes s (spelled non_ref)) (letters_of most s) (letters_sound most s) e
  where
    go : (p q : Bool) (l : Option (List ℕ)) → ((r : List ℕ) → l ≡ some r → Letters most r)
        → cond p (some span_del) (cond q (some non_ref) (map letters l)) ≡ some a → SoundAllele most a
    go true q l f e = subst (SoundAllele most) (some_same e) tt
    go false true l f e = subst (SoundAllele most) (some_same e) tt
    go false false none f e = not_none e
    go false false (some r) f e = subst (SoundAllele most) (some_same e) (f r refl)

-- ---- gt_of

-- a genotype of n alleles
pub record GenotypeBelow (n : ℕ) (p : AllelePair) : Type 0 where
  pub ordered : p.low ≤ p.high
  pub below : p.high < n

pair_below_sound : (n : ℕ) (l : List ℕ) (p : AllelePair) → gt_below n l ≡ some p → GenotypeBelow n p
unfolding gt_below
pair_below_sound n [] p e = not_none e
pair_below_sound n (j ∷ []) p e = not_none e
pair_below_sound n (j ∷ k ∷ []) p e = after_only_if _ _ e λ t same.
    let (a, b) = both_of (leb j k) (ltb k n) t in
    subst (GenotypeBelow n) same (record { ordered = leb-true _ _ a; below = leb-true _ _ b })
pair_below_sound n (j ∷ k ∷ l ∷ r) p e = not_none e

pair_sound : (n : ℕ) (s : List ℕ) (p : AllelePair) → gt_of n s ≡ some p → GenotypeBelow n p
unfolding gt_of
pair_sound n s p e = after_bind _ _ e λ l q e. pair_below_sound n l p e

pub pair_or_missing_sound : (n : ℕ) (s : List ℕ) (o : Option AllelePair) → or_missing (gt_of n) s ≡ some o
    → IfThere (GenotypeBelow n) o
pair_or_missing_sound n s o = or_missing_back (GenotypeBelow n) (gt_of n) s o (pair_sound n s)
