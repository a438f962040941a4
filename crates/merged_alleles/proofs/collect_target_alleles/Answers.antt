-- The letter ALTs, and behind them `*`, if it is shown, and `<NON_REF>`.
use Rattle.merged_alleles.proofs.Ends.{merged_added, merged_too_many}
use Rattle.merged_alleles.specs.Alts.{Added, AltsLaid}
use Rattle.merged_alleles.proofs.collect_target_alleles.Goals as goal

pub returns-in_err-letters : goal.returns-in_err-letters
unfolding AltsLaid Added
returns-in_err-letters c = rw c.from_residual.ensures (merged_too_many _ _ _ _ c.args.found.now c.in_err-letters.ensures)

pub put_ends-requires : goal.put_ends-requires
unfolding Added
put_ends-requires c = c.in_ok-letters.ensures.0

pub returns : goal.returns
unfolding Added
returns c = rw (merged_added _ _ _ _ _, ← c.in_ok-letters.ensures.1, ← c.any_span_del-shown.ensures _) (c.put_ends.ensures)
