-- The line `records`, then the called list of the record groups behind it.
use borrow.Author.Rules.{rules}
use mathlib.Core.Path.{refl}
use native.Mathlib.Omega.{arith}
use Rattle.answers.proofs.Answers.{answered_refused}
use Rattle.definitions.specs.Bytes.{text}
use Rattle.definitions.specs.Lines.{key_of}
use Rattle.genotype_gvcfs.proofs.ReadHeader.{called_is, header_names, records_unread}
use Rattle.kv_text.specs.Lines.{LineReads}
use Rattle.genotype_gvcfs.proofs.call_samples.Goals as goal

pub overflow_add-end : goal.overflow_add-end
unfolding LineReads
overflow_add-end c = let l = rw (c.in-Some.is) at c.number_line.ensures in omega (arith, l.within)

pub call_records-requires : goal.call_records-requires
call_records-requires c = header_names c.requires

pub returns-in_default : goal.returns-in_default
unfolding key_of text
returns-in_default c = answered_refused (records_unread _ _ c.requires (rw (c.in_default.is) at c.number_line.ensures)) refl

pub returns : goal.returns
unfolding key_of text LineReads
returns c = let l = rw (c.in-Some.is) at c.number_line.ensures in rw (called_is _ _ c.requires l)
    c.call_records.ensures
