-- One line after the other, each behind the one before it.
use Prim.Native.Nat.{suc}
use native.Mathlib.Omega.{arith}
use Rattle.definitions.specs.Bytes.{text}
use Rattle.definitions.specs.Lines.{key_of}
use Rattle.definitions.specs.ListReader.{gt_of}
use Rattle.definitions.specs.Numbers.{number, number_list, or_missing}
use Rattle.kv_text.proofs.Lines.{line_within}
use Rattle.list_reader.proofs.RecordLines.{ad_wrong, dp_wrong, gq_wrong, gt_wrong, mindp_wrong, pl_wrong, sample_read_lem}
use Rattle.list_reader.specs.RecordGroups.{GtRead}
use Rattle.list_reader.proofs.sample_lines.Goals as goal

pub returns-in_err-e0 : goal.returns-in_err-e0
unfolding GtRead
returns-in_err-e0 c = rw c.from_residual.ensures (gt_wrong _ _ _ c.in_err-e0.ensures)

pub overflow_add-e0 : goal.overflow_add-e0
unfolding GtRead
overflow_add-e0 c = let h = line_within _ _ _ (or_missing (gt_of (suc c.args.alts))) _ _ c.in_ok-e0.ensures.line in omega arith

pub returns-in_err-gq : goal.returns-in_err-gq
unfolding GtRead key_of text
returns-in_err-gq c = rw c.from_residual-in_err-gq.ensures (gq_wrong _ _ _ _ _ c.in_ok-e0.ensures.line c.in_err-gq.ensures)

pub overflow_add-e1 : goal.overflow_add-e1
overflow_add-e1 c = let h = line_within _ _ _ (or_missing number) _ _ c.in_ok-gq.ensures in omega arith

pub returns-in_err-dp : goal.returns-in_err-dp
unfolding GtRead key_of text
returns-in_err-dp c = rw c.from_residual-in_err-dp.ensures
    (dp_wrong _ _ _ _ _ c.in_ok-e0.ensures.line _ _ c.in_ok-gq.ensures c.in_err-dp.ensures)

pub overflow_add-e2 : goal.overflow_add-e2
overflow_add-e2 c = let h = line_within _ _ _ (or_missing number) _ _ c.in_ok-dp.ensures in omega arith

pub returns-in_err-mindp : goal.returns-in_err-mindp
unfolding GtRead key_of text
returns-in_err-mindp c = rw c.from_residual-in_err-mindp.ensures
    (mindp_wrong _ _ _ _ _ c.in_ok-e0.ensures.line _ _ c.in_ok-gq.ensures _ _ c.in_ok-dp.ensures c.in_err-mindp.ensures)

pub overflow_add-e3 : goal.overflow_add-e3
overflow_add-e3 c = let h = line_within _ _ _ (or_missing number) _ _ c.in_ok-mindp.ensures in omega arith

pub returns-in_err-ad : goal.returns-in_err-ad
unfolding GtRead key_of text
returns-in_err-ad c = rw c.from_residual-in_err-ad.ensures
    (ad_wrong _ _ _ _ _ c.in_ok-e0.ensures.line _ _ c.in_ok-gq.ensures _ _ c.in_ok-dp.ensures _ _ c.in_ok-mindp.ensures c.in_err-ad.ensures.0)

pub overflow_add-ad : goal.overflow_add-ad
overflow_add-ad c = let h = line_within _ _ _ (or_missing number_list) _ _ c.in_ok-ad.ensures.0 in omega (arith, h, c.well_formed)

pub returns-in_err-pl : goal.returns-in_err-pl
unfolding GtRead key_of text
returns-in_err-pl c = rw c.from_residual-in_err-pl.ensures
    (pl_wrong _ _ _ _ _ c.in_ok-e0.ensures.line _ _ c.in_ok-gq.ensures _ _ c.in_ok-dp.ensures _ _ c.in_ok-mindp.ensures
    _ c.in_ok-ad.ensures.0 c.in_ok-ad.ensures.1 c.in_err-pl.ensures.0)

pub overflow_add-next : goal.overflow_add-next
overflow_add-next c = let h = line_within _ _ _ (or_missing number_list) _ _ c.in_ok-pl.ensures.0 in omega (arith, h, c.well_formed)

pub returns : goal.returns
unfolding GtRead key_of text
returns c = sample_read_lem _ _ _ _ _ c.in_ok-e0.ensures.line _ _ c.in_ok-gq.ensures _ _ c.in_ok-dp.ensures _ _ c.in_ok-mindp.ensures
    _ c.in_ok-ad.ensures.0 c.in_ok-ad.ensures.1 _ c.in_ok-pl.ensures.0 c.in_ok-pl.ensures.1
