-- What the functions that remap values promise, by cases, and the front of an array that holds the values.
-- Assumes nothing.
use Prim.Native.Nat.{◌<◌, ◌≤◌, ℕ}
use borrow.Author.Tests.{le-leb, lt-leb}
use lib.ListN.{length, take}
use lib.Seq.{length-sets, sets, sets-eq, take_at}
use mathlib.Core.List.{List, [], ◌∷◌}
use mathlib.Core.Path.{◌∙◌, ◌≡◌, ap, refl, sym}
use native.Mathlib.Omega.{arith}
use Rattle.definitions.specs.Alleles.{genotype_count}
use Rattle.definitions.specs.Genotypes.{remapped_ad, remapped_pl}
use Rattle.genotype_values.specs.Remapped.{Filled, PlRemapped, of_present}
use Rattle.genotype_values.proofs.Mapped.{ad_length, count_is, pl_length, product_bound}

pub pl_refused : {m pl before : List ℕ} → 16 < length m → PlRemapped m pl before before 0
pl_refused {m} h = record { values = rw (lt-leb (length m) 16 h); count = rw (lt-leb (length m) 16 h) }

pub pl_remapped : {m pl before after : List ℕ} {r : ℕ} → length m ≤ 16 → after ≡ sets before 0 (remapped_pl m pl) → r ≡ genotype_count (length m)
    → PlRemapped m pl before after r
pl_remapped {m} h e n = record { values = rw (le-leb (length m) 16 h) e; count = rw (le-leb (length m) 16 h) n }

pub pl_filled : {m pl before after : List ℕ} {r : ℕ} → PlRemapped m pl before after r → length m ≤ 16 → Filled (remapped_pl m pl) before after r
pl_filled {m} {pl} p h =
    record { laid = rw (le-leb (length m) 16 h) at p.values; count = rw (pl_length m pl) (rw (le-leb (length m) 16 h) at p.count) }

pub none_filled : (f : List ℕ → List ℕ) (xs : List ℕ) {before : List ℕ} → length xs ≡ 0 → Filled (of_present f xs) before before 0
unfolding of_present
none_filled f [] h = record { laid = refl; count = refl }
none_filled f (x ∷ xs) h = absurd (omega arith)

pub some_filled : (f : List ℕ → List ℕ) (xs : List ℕ) {before after : List ℕ} {r : ℕ} → (length xs ≡ 0 → ⊥)
    → Filled (f xs) before after r → Filled (of_present f xs) before after r
unfolding of_present
some_filled f [] h p = absurd (h refl)
some_filled f (x ∷ xs) h p = p

few_present : (f : List ℕ → List ℕ) (xs : List ℕ) (most : ℕ) → length (f xs) ≤ most → length (of_present f xs) ≤ most
unfolding of_present
few_present f [] most h = omega arith
few_present f (x ∷ xs) most h = h

-- of at most 16 alleles
pub few_ad : (m ad : List ℕ) → length m ≤ 16 → length (of_present (remapped_ad m) ad) ≤ 16
few_ad m ad h = few_present (remapped_ad m) ad 16 (omega (arith, ad_length m ad))

pub few_pl : (m pl : List ℕ) → length m ≤ 16 → length (of_present (remapped_pl m) pl) ≤ 136
few_pl m pl h = few_present (remapped_pl m) pl 136 (omega (arith, pl_length m pl, count_is (length m), product_bound (length m) h))

module _ {values before after : List ℕ} {r : ℕ} (p : Filled values before after r) (room : length values ≤ length before) where
  pub filled_front : take r after ≡ values
  filled_front = rw (p.laid, p.count, sets-eq values before 0 (omega arith)) (take_at values _ (length values) refl)

  pub filled_within : r ≤ length after
  filled_within = omega (arith, p.count, ap length p.laid ∙ length-sets before 0 values)

  pub filled_length : r ≡ length (take r after)
  filled_length = p.count ∙ sym (ap length filled_front)
