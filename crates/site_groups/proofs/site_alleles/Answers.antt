-- One line after the other, each behind the one before it.
use mathlib.Core.Option.{some}
use native.Mathlib.Omega.{arith}
use Rattle.site_groups.proofs.SiteLines.{alleles_read, alt_wrong, ref_wrong}
use Rattle.definitions.specs.Bytes.{text}
use Rattle.definitions.specs.Lines.{key_of}
use Rattle.kv_text.proofs.Lines.{line_within}
use Rattle.site_groups.proofs.site_alleles.Goals as goal

pub returns-in_err-refs : goal.returns-in_err-refs
unfolding key_of text
returns-in_err-refs c = rw c.from_residual.ensures (ref_wrong _ _ c.in_err-refs.ensures.0)

pub overflow_add-refs : goal.overflow_add-refs
overflow_add-refs c = let h = line_within _ _ _ some _ _ c.in_ok-refs.ensures.0 in omega arith

pub returns-in_err-alts : goal.returns-in_err-alts
unfolding key_of text
returns-in_err-alts c = rw c.from_residual-in_err-alts.ensures
    (alt_wrong _ _ _ c.in_ok-refs.ensures.0 c.in_ok-refs.ensures.1.forward c.in_err-alts.ensures.0)

pub overflow_add-next : goal.overflow_add-next
overflow_add-next c = let h = line_within _ _ _ some _ _ c.in_ok-alts.ensures.0 in omega arith

pub returns : goal.returns
unfolding key_of text
returns c = alleles_read _ _ _ c.in_ok-refs.ensures.0 c.in_ok-refs.ensures.1.forward _ c.in_ok-alts.ensures.0 c.in_ok-alts.ensures.1.forward
