-- The pair at a place, and the searches over places and alleles.
use Prim.Native.Nat.{◌+◌, ◌-◌, ◌<◌, ◌≤◌, suc, zero, ℕ}
use lib.Dec.{eqb}
use lib.ListN.{drop, get_or, get_elem?, length, take}
use lib.Seq.{sets, take-append_seam}
use mathlib.Core.Bool.{Bool, ◌||◌, false, true}
use mathlib.Core.List.{List, [], ◌∷◌}
use mathlib.Core.Option.{Option, none, some}
use mathlib.Core.Path.{◌∙◌, ◌≡◌, ap, refl, sym}
use native.Mathlib.Nat.{sub-zero}
use native.Mathlib.Numerals.{add-one}
use native.Mathlib.Omega.{arith}
use Rattle.definitions.specs.Genotypes.{genotype_pairs}
use Rattle.definitions.specs.Lists.{any_of, numbers_from}
use Rattle.definitions.specs.Numbers.{number_list}
use Rattle.definitions.specs.SelectionSheet.{in_least_pair, pair_has}
use Rattle.kv_write.proofs.Laying.{sets_front}
use Rattle.laws.proofs.Every.{IfThere}
use Rattle.laws.proofs.Members.{get_d_some}
use Rattle.laws.proofs.Tests.{not_none}
use Rattle.shown_alleles.specs.Shown.{no_pair}

-- ---- what stands at an index

at_none : {A : Type 0} (l : List A) (i : ℕ) (d : A) → get_elem? l i ≡ none → get_or l i d ≡ d
at_none [] i d h = refl
at_none (y ∷ l) zero d h = not_none (sym h)
at_none (y ∷ l) (suc i) d h = at_none l i d h

pub pair_there : (place allele low high : ℕ) → some (record { low = low; high = high }) ≡ get_elem? (genotype_pairs 16) place
    → (eqb allele low || eqb allele high) ≡ pair_has allele (get_or (genotype_pairs 16) place no_pair)
unfolding pair_has
pair_there place allele low high e = rw (get_d_some (genotype_pairs 16) place no_pair (sym e))

pub pair_not_there : (place allele : ℕ) → none ≡ get_elem? (genotype_pairs 16) place
    → (eqb allele 0 || eqb allele 0) ≡ pair_has allele (get_or (genotype_pairs 16) place no_pair)
unfolding pair_has
pair_not_there place allele e = rw (at_none (genotype_pairs 16) place no_pair (sym e))

-- ---- a search over numbers: some number passes if one from i on does

pub any_start : (p : ℕ → Bool) (n : ℕ) → any_of p (numbers_from 0 n) ≡ any_of p (numbers_from 0 (n - 0))
any_start p n = ap (λ (k : ℕ). any_of p (numbers_from 0 k)) (sym (sub-zero n))

module _ (p : ℕ → Bool) (n i : ℕ) (inv : any_of p (numbers_from 0 n) ≡ any_of p (numbers_from i (n - i))) where
  pub any_here : i < n → p i ≡ true → true ≡ any_of p (numbers_from 0 n)
  unfolding any_of numbers_from
  any_here h e = let m : n - i ≡ suc (n - (i + 1)) = omega arith in sym (inv ∙ rw (m, e))

  pub any_next : i < n → p i ≡ false → any_of p (numbers_from 0 n) ≡ any_of p (numbers_from (i + 1) (n - (i + 1)))
  unfolding any_of numbers_from
  any_next h e = let m : n - i ≡ suc (n - (i + 1)) = omega arith in inv ∙ rw (m, e, add-one i)

  pub any_end : n ≤ i → false ≡ any_of p (numbers_from 0 n)
  unfolding any_of numbers_from
  any_end h = let m : n - i ≡ 0 = omega arith in sym (inv ∙ rw m)

-- ---- REF and the ALTs by number

pub field_number : (reference : List ℕ) (fields : List (List ℕ)) (number : ℕ) → 0 < number
    → get_or (reference ∷ fields) number [] ≡ get_or fields (number - 1) []
field_number reference fields zero h = absurd (omega arith)
field_number reference fields (suc n) h = let e : suc n - 1 ≡ n = omega arith in rw e

pub past_fields : (fields : List (List ℕ)) (i : ℕ) → length fields ≤ i → get_or fields i [] ≡ []
past_fields [] i h = refl
past_fields (f ∷ fields) zero h = absurd (omega arith)
past_fields (f ∷ fields) (suc i) h = past_fields fields i (omega arith)

-- ---- numbers at the front of an array

pub front_is : (d after numbers : List ℕ) (n : ℕ) → after ≡ sets d 0 numbers → n ≡ length numbers → length numbers ≤ length d → take n after ≡ numbers
front_is d after numbers n e is h = rw (e, is, sets_front d numbers h) (take-append_seam numbers (drop (length numbers) d))

pub front_long : (value d after numbers : List ℕ) (n : ℕ) → number_list value ≡ some numbers → after ≡ sets d 0 numbers → n ≡ length numbers
    → length numbers ≤ length d → n ≡ length (take n after)
front_long value d after numbers n there e is h = is ∙ sym (ap length (front_is d after numbers n e is h))

-- PL, and that it is missing
pub least_missing : (n allele : ℕ) (pl : Option (List ℕ)) → pl ≡ none → false ≡ in_least_pair n allele pl
unfolding in_least_pair
least_missing n allele pl e = rw e

pub few_numbers : (value fs : List ℕ) → IfThere (λ l. length l ≤ 136) (number_list value) → number_list value ≡ some fs → length fs ≤ 136
few_numbers value fs h e = rw e at h
