-- By whether it starts there.
use borrow.Author.Rules.{rules}
use mathlib.Core.Bool.{not}
use mathlib.Core.Path.{◌∙◌, ap, sym}
use Rattle.definitions.specs.Alleles.{spelled}
use Rattle.definitions.specs.Bytes.{text}
use Rattle.merged_alleles.proofs.SpanDel.{shows_spanning, shows_starting}
use Rattle.merged_alleles.proofs.shows_span_del.Goals as goal

pub returns-then-starts_at : goal.returns-then-starts_at
unfolding spelled text
returns-then-starts_at c = λ ref. rw (c.alternate_alleles.ensures) at (c.among_fields.ensures)
    ∙ shows_starting _ _ _ _ ref (sym (c.starts_at.ensures) ∙ c.if-starts_at.true)

pub returns : goal.returns
returns c = λ ref. ap not (c.is_block.ensures ∙ c.requires.block) ∙ shows_spanning _ _ _ _ ref (sym (c.starts_at.ensures) ∙ c.if-starts_at.false)
