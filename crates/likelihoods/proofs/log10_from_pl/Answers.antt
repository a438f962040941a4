-- Every u32 is a binary64, so the one rounding is the quotient's.
use borrow.Author.Rules.{rules}
use lib.Ieee.{binary64, odd, of_bits, of_fields}
use mathlib.Core.Path.{subst, sym}
use native.Mathlib.Omega.{arith}
use Rattle.definitions.specs.Likelihoods.{NearMinusTenth}
use Rattle.likelihoods.proofs.Tenth.{div_tenth, near_tenth}
use Rattle.likelihoods.proofs.log10_from_pl.Goals as goal

pub returns : goal.returns
unfolding of_bits of_fields odd
returns c = let p = c.args.pl in
    let e = div_tenth p (omega (arith, c.ranges.pl)) in
    record { rounded = e; near = subst (λ x. NearMinusTenth p x) (sym e) (near_tenth p (omega (arith, c.ranges.pl))) }
