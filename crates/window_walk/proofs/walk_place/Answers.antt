-- By whether there is an interval to walk, then by its turn.
use borrow.Author.Rules.{rules}
use Rattle.std.proofs.lemmas.Result.{err_from_is_err_and}
use borrow.Author.Tests.{not-false, not-true}
use mathlib.Core.Path.{◌∙◌, sym}
use native.Mathlib.Omega.{arith}
use Rattle.breakpoint_windows.proofs.ContigWindows.{depth_from, depth_sum_lem, goes_on}
use Rattle.window_walk.proofs.OnePlace.{turn_ready, underway, walked_on, walked_past, walked_refused}
use Rattle.bio_ids.proofs.GenomeLoc.new.Reads as new-reads
use Rattle.bio_ids.proofs.GenomePosition.new_1based.Reads as new-1based-reads
use Rattle.contig_walk.proofs.walk_interval.Reads as walk-interval-reads
use Rattle.covering_sites.proofs.skip_ended.Reads as skip-ended-reads
use Rattle.breakpoint_windows.proofs.has_interval.Reads as has-interval-reads
use Rattle.window_walk.proofs.walk_place.Goals as goal

pub overflow_add-depth : goal.overflow_add-depth
overflow_add-depth c = let (rest, ready, way) = c.requires in
    omega (arith, depth_sum_lem ready.window way.carried.deep)

pub overflow_sub-depth : goal.overflow_sub-depth
overflow_sub-depth c = let (rest, ready, way) = c.requires in
    depth_from ready.window way.carried.deep

pub returns-then-not-has_interval : goal.returns-then-not-has_interval
returns-then-not-has_interval c = λ rest ready way.
    walked_past ready way (sym c.has_interval.ensures ∙ c.if-not-has_interval.true)

pub overflow_sub-position : goal.overflow_sub-position
overflow_sub-position c = let (rest, ready, way) = c.requires in
    omega (arith, goes_on ready.window)

pub skip_ended-requires : goal.skip_ended-requires
skip_ended-requires c = let (rest, ready, way) = c.requires in
    record { bounded = ready.runs.in_runs.bounded; samples_in_bounds = ready.ended.long }

pub walk_interval-requires : goal.walk_interval-requires
walk_interval-requires c = let first = c.new-loc.ensures.0 ∙ c.new_1based-first.ensures in
    let last = c.new-loc.ensures.1 ∙ c.new_1based-last.ensures in
    let test = sym c.has_interval.ensures ∙ c.if-not-has_interval.false in
    let (rest, ready, way) = c.requires in
    (turn_ready ready way test _ _ first last c.skip_ended.ensures, underway ready way)

pub returns-in_err-step : goal.returns-in_err-step
unfolding turn_ready underway
returns-in_err-step c = λ rest ready way.
    let first = c.new-loc.ensures.0 ∙ c.new_1based-first.ensures in
    let last = c.new-loc.ensures.1 ∙ c.new_1based-last.ensures in
    let test = sym c.has_interval.ensures ∙ c.if-not-has_interval.false in
    let turned = c.in_err-step.ensures (turn_ready ready way test _ _ first last c.skip_ended.ensures) (underway ready way) in
    let p = err_from_is_err_and c.from_residual.result c.from_residual.ensures.1 in
    rw (p.1, p.2) (walked_refused ready way test _ _ first last c.skip_ended.ensures _ _ _ turned)

pub returns : goal.returns
unfolding turn_ready underway
returns c = λ rest ready way.
    let first = c.new-loc.ensures.0 ∙ c.new_1based-first.ensures in
    let last = c.new-loc.ensures.1 ∙ c.new_1based-last.ensures in
    let test = sym c.has_interval.ensures ∙ c.if-not-has_interval.false in
    let turned = c.in_ok-step.ensures (turn_ready ready way test _ _ first last c.skip_ended.ensures) (underway ready way) in
    walked_on ready way test _ _ first last c.skip_ended.ensures _ _ _ turned
