-- `diploid_pairs::place_of` meets its contract. An allele number is a byte, so no product or sum wraps; the higher of the two is found by the test.
-- Assumes nothing.
use Prim.Native.Nat.{◌*◌, ◌+◌, ◌/◌, ◌<◌, ◌≤◌, max, min, ℕ}
use borrow.Author.Rules.{rules}
use mathlib.Core.Path.{◌≡◌}
use native.Mathlib.Nat.{mul-le-mul}
use native.Mathlib.Numerals.{add-one}
use native.Mathlib.Omega.{arith}
use Rattle.definitions.specs.Alleles.{genotype_count}
use Rattle.definitions.specs.Genotypes.{genotype_index, genotype_index_any}
use Rattle.diploid_pairs.proofs.place_of.Goals as goal

product : (k : ℕ) → k < 256 → k * (k + 1) ≤ 255 * 256
product k h = mul-le-mul {n₂ = 255} {m₂ = 256} (omega arith) (omega arith)

placed : (a b low high : ℕ) → min a b ≡ low → max a b ≡ high → high * (high + 1) / 2 + low ≡ genotype_index_any a b
unfolding genotype_index_any genotype_index genotype_count
placed a b low high l h = rw (l, h, add-one)

pub overflow_mul-result : goal.overflow_mul-result
overflow_mul-result c = omega (arith, product c.get-k.result (omega arith))

pub overflow_add-result-then-j-k : goal.overflow_add-result-then-j-k
overflow_add-result-then-j-k c = omega (arith, product c.get-k.result (omega arith))

pub overflow_mul-result-else-j-k : goal.overflow_mul-result-else-j-k
overflow_mul-result-else-j-k c = omega (arith, product c.get-j.result (omega arith))

pub overflow_add-result-else-j-k-2 : goal.overflow_add-result-else-j-k-2
overflow_add-result-else-j-k-2 c = omega (arith, product c.get-j.result (omega arith))

pub returns-then-j-k : goal.returns-then-j-k
returns-then-j-k c = placed _ _ _ _ (omega arith) (omega arith)

pub returns-else-j-k : goal.returns-else-j-k
returns-else-j-k c = placed _ _ _ _ (omega arith) (omega arith)
