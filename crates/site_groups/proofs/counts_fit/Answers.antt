-- Test by test; n is a byte, so that the product does not wrap.
use Prim.Native.Nat.{◌*◌, ◌+◌, ◌<◌, ◌≤◌, ℕ}
use borrow.Author.Tests.{eq-eqb, le-leb, lt-leb, ne_eqb}
use lib.Dec.{eqb}
use mathlib.Core.Bool.{Bool, ◌&&◌, ◌||◌, false, true}
use mathlib.Core.Path.{◌≡◌, refl}
use native.Mathlib.Nat.{mul-le-mul}
use native.Mathlib.Numerals.{add-one}
use native.Mathlib.Omega.{arith}
use Rattle.definitions.specs.Alleles.{genotype_count}
use Rattle.site_groups.proofs.counts_fit.Goals as goal

product : (k : ℕ) → k < 256 → k * (k + 1) ≤ 255 * 256
product k h = mul-le-mul {n₂ = 255} {m₂ = 256} (omega arith) (omega arith)

never : (b : Bool) → false ≡ (b && false)
never true = refl
never false = refl

alone : (b : Bool) → b ≡ (b && true)
alone true = refl
alone false = refl

pub returns-then-n-ad : goal.returns-then-n-ad
returns-then-n-ad c = rw (lt-leb _ _ c.if-n-ad.true) (never (eqb c.args.pl 0 || eqb c.args.pl (genotype_count c.args.alleles)))

pub returns-then-pl-eq0 : goal.returns-then-pl-eq0
returns-then-pl-eq0 c = rw (eq-eqb _ _ c.if-pl-eq0.true, le-leb _ _ c.if-n-ad.false)

pub overflow_mul-result : goal.overflow_mul-result
overflow_mul-result c = omega (arith, product c.args.alleles (omega arith))

pub returns : goal.returns
unfolding genotype_count
returns c = rw (ne_eqb _ _ c.if-pl-eq0.false, le-leb _ _ c.if-n-ad.false, add-one) (alone (eqb c.args.pl (genotype_count c.args.alleles)))
