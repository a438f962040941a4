use mathlib.Core.Path.{◌∙◌}
use native.Mathlib.Numerals.{add-one}
use native.Mathlib.Omega.{arith}
use Rattle.std.proofs.lemmas.List.{set-get_or}
use Rattle.window_counts.proofs.Adding.{count_fits, one_window, overlap_small, past_all_lem, past_stretch}
use Rattle.window_counts.proofs.add_overlaps.Goals as goal

-- a window behind the stretch: its count stays
pub returns-then-end-begin : goal.returns-then-end-begin
returns-then-end-begin c =
    set-get_or _ _ 0 ∙ past_stretch _ _ _ _ c.loop-count.invariant (omega arith) ∙ rw (c.get-start.ensures, c.get-end.ensures, c.get-begin.ensures)

pub overflow_cast-count : goal.overflow_cast-count
overflow_cast-count c = let e = c.overlap-more.ensures in
    let s = overlap_small c.get-start.result c.get-end.result c.args.windows.size 0 c.loop-count.begin in
    let p = c.requires.size_small in
    record { fits = omega arith }

pub overflow_add-count : goal.overflow_add-count
overflow_add-count c = record {
  fits = count_fits _ _ _ _ c.loop-count.invariant c.get-start.ensures c.get-end.ensures c.get-begin.ensures
      (omega (arith, c.loop-count-test.true, c.loop-count.auto.count-items)) c.requires.fits c.overlap-more.ensures;
}

pub loop-count-preserved : goal.loop-count-preserved
loop-count-preserved c = rw add-one (one_window _ _ _ _ c.loop-count.invariant _ (omega (arith, c.loop-count-test.true, c.loop-count.auto.count-items)) (rw c.overlap-more.ensures))

pub returns : goal.returns
returns c =
    past_all_lem _ _ _ _ c.loop-count.invariant (omega (arith, c.loop-count-test.false, c.loop-count.auto.count-items))
    ∙ rw (c.get-start.ensures, c.get-end.ensures, c.get-begin.ensures)
