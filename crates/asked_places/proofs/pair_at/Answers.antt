-- Two lines: a contig and a position.
use Rattle.asked_places.proofs.Pairs.{first_unread, pair_read, second_unread}
use Rattle.asked_places.specs.Asked.{PairRead}
use Rattle.definitions.specs.Bytes.{text}
use Rattle.definitions.specs.Lines.{key_of}
use Rattle.definitions.specs.Numbers.{name, number}
use Rattle.kv_text.proofs.Lines.{line_within}
use mathlib.Core.Path.{refl, sym}
use native.Mathlib.Omega.{arith}
use Rattle.asked_places.proofs.pair_at.Goals as goal

pub returns-in_err-contig : goal.returns-in_err-contig
unfolding key_of text PairRead
returns-in_err-contig c = rw c.from_residual.ensures (first_unread _ _ c.in_err-contig.ensures.0)

pub overflow_add-contig : goal.overflow_add-contig
overflow_add-contig c = omega (arith, line_within _ _ _ name _ _ c.in_ok-contig.ensures.0)

pub returns-in_err-number : goal.returns-in_err-number
unfolding key_of text PairRead
returns-in_err-number c = rw c.from_residual-in_err-number.ensures (second_unread _ _ _ _ c.in_ok-contig.ensures.0 c.in_err-number.ensures)

pub overflow_add-result : goal.overflow_add-result
overflow_add-result c = omega (arith, line_within _ _ _ number _ _ c.in_ok-number.ensures, c.well_formed)

pub returns : goal.returns
unfolding key_of text PairRead
returns c = pair_read _ _ _ _ c.in_ok-contig.ensures.0 _ _ c.in_ok-number.ensures _ refl (sym c.new_1based-position.ensures) refl
