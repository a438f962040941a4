-- One line after the other, each behind the one before it.
use native.Mathlib.Omega.{arith}
use Rattle.definitions.specs.Bytes.{text}
use Rattle.definitions.specs.Lines.{key_of}
use Rattle.definitions.specs.Numbers.{number, number_list, or_missing}
use Rattle.kv_text.proofs.Lines.{line_within}
use Rattle.called_reader.proofs.RecordLines.{ad_wrong, dp_wrong, gq_wrong, pl_wrong, sample_read_lem}
use Rattle.called_reader.proofs.sample_lines.Goals as goal

pub returns-in_err-e0 : goal.returns-in_err-e0
unfolding key_of text
returns-in_err-e0 c = rw c.from_residual.ensures (gq_wrong _ _ c.in_err-e0.ensures)

pub overflow_add-e0 : goal.overflow_add-e0
overflow_add-e0 c = let h = line_within _ _ _ (or_missing number) _ _ c.in_ok-e0.ensures in omega arith

pub returns-in_err-e1 : goal.returns-in_err-e1
unfolding key_of text
returns-in_err-e1 c = rw c.from_residual-in_err-e1.ensures (dp_wrong _ _ _ _ c.in_ok-e0.ensures c.in_err-e1.ensures)

pub overflow_add-e1 : goal.overflow_add-e1
overflow_add-e1 c = let h = line_within _ _ _ (or_missing number) _ _ c.in_ok-e1.ensures in omega arith

pub returns-in_err-ad : goal.returns-in_err-ad
unfolding key_of text
returns-in_err-ad c = rw c.from_residual-in_err-ad.ensures (ad_wrong _ _ _ _ c.in_ok-e0.ensures _ _ c.in_ok-e1.ensures c.in_err-ad.ensures.0)

pub overflow_add-ad : goal.overflow_add-ad
overflow_add-ad c = let h = line_within _ _ _ (or_missing number_list) _ _ c.in_ok-ad.ensures.0 in omega (arith, h, c.well_formed)

pub returns-in_err-pl : goal.returns-in_err-pl
unfolding key_of text
returns-in_err-pl c = rw c.from_residual-in_err-pl.ensures
    (pl_wrong _ _ _ _ c.in_ok-e0.ensures _ _ c.in_ok-e1.ensures _ c.in_ok-ad.ensures.0 c.in_ok-ad.ensures.1 c.in_err-pl.ensures.0)

pub overflow_add-next : goal.overflow_add-next
overflow_add-next c = let h = line_within _ _ _ (or_missing number_list) _ _ c.in_ok-pl.ensures.0 in omega (arith, h, c.well_formed)

pub returns : goal.returns
unfolding key_of text
returns c = sample_read_lem _ _ _ _ c.in_ok-e0.ensures _ _ c.in_ok-e1.ensures _ c.in_ok-ad.ensures.0 c.in_ok-ad.ensures.1
    _ c.in_ok-pl.ensures.0 c.in_ok-pl.ensures.1
