-- Test by test; there are at most 16 alleles, so that the product does not wrap.
use Prim.Native.Nat.{◌*◌, ◌+◌, ◌<◌, ◌≤◌, ℕ}
use borrow.Author.Tests.{le-ltb, lt-ltb}
use mathlib.Core.Path.{◌∙◌, sym}
use native.Mathlib.Nat.{mul-le-mul}
use native.Mathlib.Numerals.{add-one}
use native.Mathlib.Omega.{arith}
use Rattle.definitions.specs.Alleles.{genotype_count}
use Rattle.list_reader.proofs.counts_fit.Goals as goal

product : (k : ℕ) → k < 16 → (k + 1) * (k + 1 + 1) ≤ 16 * 17
product k h = mul-le-mul {n₂ = 16} {m₂ = 17} (omega arith) (omega arith)

pub returns-then-not-before : goal.returns-then-not-before
returns-then-not-before c = rw (c.if-not-before.true)

pub returns-then-alts-ge16 : goal.returns-then-alts-ge16
returns-then-alts-ge16 c = rw (c.if-not-before.false, le-ltb _ _ c.if-alts-ge16.true)

pub overflow_mul-genotypes : goal.overflow_mul-genotypes
overflow_mul-genotypes c = omega (arith, product c.args.alts (omega arith))

pub returns-then-not-missing_or : goal.returns-then-not-missing_or
unfolding genotype_count
returns-then-not-missing_or c = rw (
  c.if-not-before.false,
  lt-ltb _ _ c.if-alts-ge16.false,
  ← add-one c.args.alts,
  ← add-one
      (c.args.alts + 1),
)
    (rw (sym c.missing_or.ensures ∙ c.if-not-missing_or.true))

pub returns : goal.returns
unfolding genotype_count
returns c = rw (
  c.if-not-before.false,
  lt-ltb _ _ c.if-alts-ge16.false,
  ← add-one c.args.alts,
  ← add-one
      (c.args.alts + 1),
)
    (rw (sym c.missing_or.ensures ∙ c.if-not-missing_or.false) c.missing_or-2.ensures)
