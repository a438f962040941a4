-- A text that is too long is refused with 2 before all; then its header.
use borrow.Author.Rules.{rules}
use mathlib.Core.Path.{refl}
use native.Mathlib.Omega.{arith}
use Rattle.answers.proofs.Answers.{answered_refused}
use Rattle.genotype_gvcfs.proofs.ReadHeader.{header_refused, short_enough, too_long_lem}
use Rattle.sample_names.specs.Header.{Header}
use Rattle.genotype_gvcfs.proofs.call.Goals as goal

pub returns-then-list-gt16777216 : goal.returns-then-list-gt16777216
returns-then-list-gt16777216 c = answered_refused (too_long_lem _ _ c.if-list-gt16777216.true) refl

pub call_samples-requires : goal.call_samples-requires
unfolding Header
call_samples-requires c = let h = rw c.in-Ok.is at c.read_samples.ensures in
    record {
      short = short_enough _ c.if-list-gt16777216.false;
      value = h.value;
      behind = h.behind;
      few = h.few;
      in_table = omega (arith, h.few, c.read_samples.auto.names);
    }

pub returns-in-NoRoom : goal.returns-in-NoRoom
unfolding Header
returns-in-NoRoom c = let h = rw c.in-NoRoom.is at (rw c.in-Err.is at c.read_samples.ensures) in absurd (omega (arith, h.no_room))

pub returns-in-Refused : goal.returns-in-Refused
unfolding Header
returns-in-Refused c = let h = rw c.in-Refused.is at (rw c.in-Err.is at c.read_samples.ensures) in
    answered_refused (header_refused _ _ (short_enough _ c.if-list-gt16777216.false) h.value) refl

pub returns-in-Ok : goal.returns-in-Ok
returns-in-Ok c = c.call_samples.ensures
