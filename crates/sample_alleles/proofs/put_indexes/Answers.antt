-- REF, the ALTs, and what REF reads as.
use mathlib.Core.Path.{◌∙◌, refl}
use Rattle.sample_alleles.proofs.Indexes.{all_numbers_lem}
use borrow.Author.Rules.{rules}
use Rattle.sample_alleles.proofs.put_indexes.Goals as goal

pub returns : goal.returns
returns c = rw (rw (c.new-first.ensures, c.reference-zero.ensures) at c.put_alts.ensures, c.store.ensures) at c.put_ref.ensures
    ∙ all_numbers_lem _ _ _ _ c.requires _ refl
