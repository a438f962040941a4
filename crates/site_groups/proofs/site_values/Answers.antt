-- One line after the other, each behind the one before it.
use native.Mathlib.Omega.{arith}
use Rattle.definitions.specs.Bytes.{text}
use Rattle.definitions.specs.Lines.{key_of}
use Rattle.definitions.specs.Numbers.{number, number_list, or_missing}
use Rattle.kv_text.proofs.Lines.{line_within}
use Rattle.kv_text.specs.Lines.{line_numbers}
use Rattle.site_groups.proofs.SiteLines.{ad_wrong, dp_wrong, gq_wrong, list_stored, mindp_wrong, none_stored, pl_wrong, values_read}
use Rattle.site_groups.proofs.site_values.Goals as goal

pub returns-in_err-gq : goal.returns-in_err-gq
unfolding key_of text
returns-in_err-gq c = rw c.from_residual.ensures (gq_wrong _ _ c.in_err-gq.ensures, (none_stored _, none_stored _))

pub overflow_add-e6 : goal.overflow_add-e6
overflow_add-e6 c = let h = line_within _ _ _ (or_missing number) _ _ c.in_ok-gq.ensures in omega arith

pub returns-in_err-dp : goal.returns-in_err-dp
unfolding key_of text
returns-in_err-dp c = rw c.from_residual-in_err-dp.ensures
    (dp_wrong _ _ _ _ c.in_ok-gq.ensures c.in_err-dp.ensures, (none_stored _, none_stored _))

pub overflow_add-e7 : goal.overflow_add-e7
overflow_add-e7 c = let h = line_within _ _ _ (or_missing number) _ _ c.in_ok-dp.ensures in omega arith

pub returns-in_err-mindp : goal.returns-in_err-mindp
unfolding key_of text
returns-in_err-mindp c = rw c.from_residual-in_err-mindp.ensures
    (mindp_wrong _ _ _ _ c.in_ok-gq.ensures _ _ c.in_ok-dp.ensures c.in_err-mindp.ensures, (none_stored _, none_stored _))

pub overflow_add-e8 : goal.overflow_add-e8
overflow_add-e8 c = let h = line_within _ _ _ (or_missing number) _ _ c.in_ok-mindp.ensures in omega arith

pub returns-in_err-depths : goal.returns-in_err-depths
unfolding key_of text
returns-in_err-depths c = rw c.from_residual-in_err-depths.ensures (
  ad_wrong _ _ _ _ c.in_ok-gq.ensures _ _ c.in_ok-dp.ensures _ _ c.in_ok-mindp.ensures c.in_err-depths.ensures.0,
  (record { numbers = line_numbers _ _ _; stored = c.in_err-depths.ensures.2 }, none_stored _),
)

pub overflow_add-depths : goal.overflow_add-depths
overflow_add-depths c = let h = line_within _ _ _ (or_missing number_list) _ _ c.in_ok-depths.ensures.0 in omega (arith, h, c.well_formed)

pub returns-in_err-likelihoods : goal.returns-in_err-likelihoods
unfolding key_of text
returns-in_err-likelihoods c = rw c.from_residual-in_err-likelihoods.ensures (
  pl_wrong _ _ _ _ c.in_ok-gq.ensures _ _ c.in_ok-dp.ensures _ _ c.in_ok-mindp.ensures _ c.in_ok-depths.ensures.0
      c.in_ok-depths.ensures.1 c.in_err-likelihoods.ensures.0,
  (
    list_stored c.args.s.now c.in_ok-depths.depths _ _ c.in_ok-depths.ensures.2,
    record { numbers = line_numbers _ _ _; stored = c.in_err-likelihoods.ensures.2 },
  ),
)

pub overflow_add-result : goal.overflow_add-result
overflow_add-result c = let h = line_within _ _ _ (or_missing number_list) _ _ c.in_ok-likelihoods.ensures.0 in omega (arith, h, c.well_formed)

pub returns : goal.returns
unfolding key_of text
returns c = (
  values_read _ _ _ _ c.in_ok-gq.ensures _ _ c.in_ok-dp.ensures _ _ c.in_ok-mindp.ensures _ c.in_ok-depths.ensures.0
      c.in_ok-depths.ensures.1 _ c.in_ok-likelihoods.ensures.0 c.in_ok-likelihoods.ensures.1,
  (c.in_ok-depths.ensures.2, c.in_ok-likelihoods.ensures.2),
)
