-- Its first line names the contig, and behind that line nothing stands.
use native.Mathlib.Omega.{arith}
use Rattle.definitions.specs.Bytes.{text}
use Rattle.definitions.specs.Lines.{key_of}
use Rattle.definitions.specs.Numbers.{name}
use Rattle.kv_text.proofs.Lines.{line_within}
use Rattle.kv_text.specs.Lines.{LineReads}
use Rattle.programs.proofs.Looks.{more_lines, not_named, one_line}
use borrow.Author.Rules.{rules}
use Rattle.programs.proofs.asked_contig.Goals as goal

pub returns-in_err-name : goal.returns-in_err-name
unfolding key_of text LineReads
returns-in_err-name c = rw c.from_residual.ensures (not_named _ c.in_err-name.ensures.0)

pub overflow_add-name : goal.overflow_add-name
overflow_add-name c = omega (arith, line_within _ _ _ name _ _ c.in_ok-name.ensures.0)

pub returns-then-name-s : goal.returns-then-name-s
unfolding key_of text LineReads
returns-then-name-s c = more_lines _ c.in_ok-name.ensures.0 (omega (arith, c.if-name-s.true))

pub returns : goal.returns
unfolding key_of text LineReads
returns c = one_line _ c.in_ok-name.ensures.0 (omega (arith, c.if-name-s.false))
