-- By whether the site starts at the position.
use mathlib.Core.Path.{◌∙◌, refl, sym}
use Rattle.definitions.specs.Lists.{only_if}
use Rattle.definitions.specs.MergedAlleles.{extended_allele, is_allele}
use Rattle.sample_alleles.proofs.Places.{put_none, put_same}
use Rattle.sample_alleles.proofs.Readings.{ref_as, rest}
use Rattle.sample_alleles.specs.Readings.{ref_reading}
use borrow.Author.Rules.{rules}
use Rattle.sample_alleles.proofs.put_ref.Goals as goal

pub returns-then-starts : goal.returns-then-starts
returns-then-starts c = let reference = c.args.reference.now in
    rw c.if-starts.true
    (rw (c.part-tail.ensures, rest reference _, c.reference.ensures) at c.put_extended.ensures
    ∙ sym (put_same _ _ _ _ _ _ (λ k. ref_as reference _ _)))

pub returns-else-starts : goal.returns-else-starts
unfolding ref_reading is_allele only_if extended_allele
returns-else-starts c = rw c.if-starts.false (sym (put_none _ _ _ _ _ (λ k. refl)))
