-- None of a site that starts earlier; of another, those of its ALTs with the end of REF behind its own.
use mathlib.Core.Path.{◌∙◌, sym}
use Rattle.merged_alleles.proofs.Turns.{adds_nothing, end_short, letters_there, no_letters_earlier}
use Rattle.merged_alleles.specs.Alts.{Added}
use Rattle.merged_alleles.proofs.remap_alleles.Goals as goal

pub returns-then-not-starts_at : goal.returns-then-not-starts_at
unfolding Added
returns-then-not-starts_at c = rw (no_letters_earlier _ _ _ _ _ (sym (c.starts_at.ensures) ∙ c.if-not-starts_at.true)) (adds_nothing (c.requires.0))

pub extend_alleles-requires : goal.extend_alleles-requires
extend_alleles-requires c = (c.requires.0, rw (c.alternate_alleles-list.ensures) (c.requires.1.short), end_short (c.reference_allele-own.ensures) (c.part-end.ensures) (c.requires.2))

pub returns : goal.returns
returns c = rw (letters_there _ _ _ _ _ (sym (c.starts_at.ensures) ∙ c.if-not-starts_at.false) (c.reference_allele-own.ensures) (c.part-end.ensures) (c.alternate_alleles-list.ensures)) (c.extend_alleles.ensures)
