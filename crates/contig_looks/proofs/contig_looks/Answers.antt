-- The intervals times the sites.
use borrow.Author.Rules.{rules}
use native.Mathlib.Omega.{arith}
use Rattle.contig_looks.proofs.Counting.{looks_are, product_fits}
use Rattle.contig_looks.proofs.count_intervals.Reads as count-intervals-reads
use Rattle.contig_looks.proofs.contig_looks.Goals as goal

pub overflow_mul-result : goal.overflow_mul-result
overflow_mul-result c = let ready = c.requires.0 in
    omega (arith, product_fits ready (c.count_intervals-intervals.ensures ready))

pub returns : goal.returns
returns c = λ ready. looks_are ready (c.count_intervals-intervals.ensures ready)
