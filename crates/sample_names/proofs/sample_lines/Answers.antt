-- The loop's invariant: all lines give the names of the table and then those of the lines left.
use native.Mathlib.Omega.{arith}
use Rattle.std.proofs.lemmas.Result.{err_from_is_err_and}
use Rattle.sample_names.proofs.Lines.{turn_end, turn_next, turn_refused, turn_start}
use Rattle.sample_names.specs.Header.{NamesRead, SampleRead}
use Rattle.sample_names.proofs.sample_lines.Goals as goal

pub loop-i-init : goal.loop-i-init
loop-i-init c = turn_start _ _ _ _ c.requires.0

pub sample_at-requires : goal.sample_at-requires
sample_at-requires c = omega (arith, c.loop-i.invariant.long, c.loop-i.invariant.few, c.requires.1)

pub returns-in_err-name : goal.returns-in_err-name
unfolding NamesRead SampleRead
returns-in_err-name c =
    let p = err_from_is_err_and c.from_residual.result c.from_residual.ensures.1 in
    rw (p.1, p.2) (turn_refused _ _ _ _ _ _ _ c.loop-i.invariant _ c.loop-i-test.true c.in_err-name.ensures)

pub overflow_mul-names : goal.overflow_mul-names
overflow_mul-names c = omega (arith, c.loop-i.invariant.long, c.requires.1)

pub bounds-names-i : goal.bounds-names-i
bounds-names-i c = omega (arith, c.loop-i.invariant.long, c.requires.1)

pub overflow_add-next : goal.overflow_add-next
unfolding SampleRead
overflow_add-next c = omega (arith, c.in_ok-name.ensures.within)

pub loop-i-preserved : goal.loop-i-preserved
unfolding SampleRead
loop-i-preserved c =
    turn_next _ _ _ _ _ _ _ c.loop-i.invariant _ _ c.loop-i-test.true (omega (arith, c.loop-i.invariant.long, c.requires.1))
    c.in_ok-name.ensures

pub returns : goal.returns
unfolding NamesRead
returns c = turn_end _ _ _ _ _ _ _ c.loop-i.invariant (omega arith)
