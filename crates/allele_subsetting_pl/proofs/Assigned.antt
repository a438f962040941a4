-- The keep list of REF and the ALTs that a GT names.
-- Assumes nothing.
use Prim.Native.Nat.{◌+◌, ◌-◌, ◌<◌, ◌≤◌, suc, ℕ}
use borrow.Author.Tests.{lt-ltb}
use lib.Dec.{ltb}
use lib.ListN.{drop, length, take}
use lib.Seq.{take-length}
use mathlib.Core.Bool.{Bool, cond, false, true}
use mathlib.Core.List.{List, [], ◌++◌, ◌∷◌, tail}
use mathlib.Core.Path.{◌∙◌, ◌≡◌, refl}
use native.Mathlib.Numerals.{add-one}
use native.Mathlib.Omega.{arith}
use Rattle.allele_subsetting_pl.proofs.Alts.{alts_length}
use Rattle.allele_subsetting_pl.specs.KeepLists.{KeepList, alts_with, is_assigned, only_assigned}
use Rattle.allele_subsetting_pl.specs.UnusedAlts.{AssignedKeep}
use Rattle.definitions.specs.AlleleSubset.{assigned_alleles}
use Rattle.definitions.specs.Lists.{all_of, filter_by, numbers_from}
use Rattle.laws.proofs.Every.{Every, every_filter, every_map, every_numbers, passes_every}
use Rattle.laws.proofs.Members.{filter_few, length_numbers}
use Rattle.laws.proofs.Tests.{both_of}

-- the assigned alleles from one on
pub assigned_from : List ℕ → ℕ → ℕ → List ℕ
assigned_from gt n a = filter_by (is_assigned gt) (numbers_from a (n - a))

module _ (gt : List ℕ) (n : ℕ) where
  pub all_assigned : assigned_from gt n 0 ≡ assigned_alleles n gt
  unfolding assigned_from assigned_alleles
  all_assigned = let whole : n - 0 ≡ n = omega arith in rw whole

  one_more : (p : ℕ → Bool) (x : ℕ) (l : List ℕ) → filter_by p (x ∷ l) ≡ only_assigned (p x) x ++ filter_by p l
  unfolding filter_by
  one_more p x l = go (p x)
    where
      go : (b : Bool) → cond b (x ∷ filter_by p l) (filter_by p l) ≡ cond b (x ∷ []) [] ++ filter_by p l
      go true = refl
      go false = refl

  pub next_assigned : (a : ℕ) (assigned : Bool) → a < n → assigned ≡ is_assigned gt a
      → assigned_from gt n a ≡ only_assigned assigned a ++ assigned_from gt n (a + 1)
  unfolding assigned_from numbers_from
  next_assigned a assigned h e =
      let more : n - a ≡ suc (n - (a + 1)) = omega arith in
      rw (more, e) (one_more (is_assigned gt) a _ ∙ rw add-one)

  pub none_left : (a : ℕ) → n ≤ a → assigned_from gt n a ≡ []
  unfolding assigned_from numbers_from filter_by
  none_left a h = let none : n - a ≡ 0 = omega arith in rw none

  pub few_assigned : length (assigned_alleles n gt) ≤ n
  unfolding assigned_alleles
  few_assigned = omega (arith, filter_few (is_assigned gt) (numbers_from 0 n), length_numbers 0 n)

  pub assigned_below : Every (λ a. a < n) (assigned_alleles n gt)
  unfolding assigned_alleles
  assigned_below = every_filter (is_assigned gt) (numbers_from 0 n) (every_map (λ a h. let z : a < n = omega arith in z) (every_numbers 0 n))

-- all but the first
pub tail_part : (l : List ℕ) → take (length l - 1) (drop 1 l) ≡ tail l
tail_part [] = refl
tail_part (x ∷ l) = let rest : suc (length l) - 1 ≡ length l = omega arith in rw rest (take-length l)

pub tail_passes : (p : ℕ → Bool) (l : List ℕ) → all_of p l ≡ true → all_of p (tail l) ≡ true
unfolding all_of
tail_passes p [] e = e
tail_passes p (x ∷ l) e = (both_of (p x) (all_of p l) e).1

-- REF comes first
pub ref_first : (gt : List ℕ) (n : ℕ) → assigned_alleles (suc n) gt ≡ 0 ∷ filter_by (is_assigned gt) (numbers_from 1 n)
unfolding assigned_alleles filter_by numbers_from
ref_first gt n = refl

module _ {alts keep : List ℕ} {n : ℕ} (k : AssignedKeep alts n keep) where
  pub assigned_keep_list : KeepList keep
  assigned_keep_list =
      rw k.assigned
      (record {
        few = omega (arith, few_assigned k.gt n, k.few);
        alleles = passes_every (λ a. ltb a 16) (every_map (λ a l. lt-ltb a 16 (let z : a < 16 = omega (arith, k.few) in z)) (assigned_below k.gt n));
      })

  pub keeps_ref : 1 ≤ length keep
  keeps_ref = rw (k.assigned, k.count, ref_first) (omega arith)

  pub assigned_alts_length : length (alts_with alts (tail keep)) ≤ length alts
  assigned_alts_length = rw (k.assigned, k.count, ref_first) (alts_length alts (is_assigned k.gt))
