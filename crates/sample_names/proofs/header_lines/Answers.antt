-- The first line, then the `sample` lines behind it.
use native.Mathlib.Omega.{arith}
use Rattle.std.proofs.lemmas.Result.{err_from_is_err_and}
use Rattle.sample_names.proofs.Lines.{header_read, header_refused}
use Rattle.sample_names.specs.Header.{CountRead, LinesRead, NamesRead}
use Rattle.sample_names.proofs.header_lines.Goals as goal

pub returns-in_err-samples : goal.returns-in_err-samples
unfolding LinesRead CountRead
returns-in_err-samples c =
    let p = err_from_is_err_and c.from_residual.result c.from_residual.ensures.1 in
    rw (p.1, p.2) c.in_err-samples.ensures

pub sample_lines-requires : goal.sample_lines-requires
unfolding CountRead
sample_lines-requires c = let n = c.in_ok-samples.ensures in (n.within, omega (arith, n.few, c.requires))

pub returns-in_err-next : goal.returns-in_err-next
unfolding LinesRead CountRead NamesRead
returns-in_err-next c =
    let p = err_from_is_err_and c.from_residual-in_err-next.result c.from_residual-in_err-next.ensures.1 in
    rw (p.1, p.2) (header_refused _ _ _ c.in_ok-samples.ensures _ c.in_err-next.ensures)

pub returns : goal.returns
unfolding LinesRead CountRead NamesRead
returns c = header_read _ _ _ c.in_ok-samples.ensures _ _ _ c.requires c.in_ok-next.ensures
