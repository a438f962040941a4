-- The sites by sample, the contigs in byte order of name, then the figure.
use borrow.Author.Rules.{rules}
use native.Mathlib.Omega.{arith}
use Rattle.combined_list.proofs.ListReady.{firsts_within, keys_of_rows, rows_for_lem}
use Rattle.combined_list.proofs.OneContig.{taken_exactly}
use Rattle.search_looks.proofs.Figure.{contigs_answered, contigs_ready}
use Rattle.search_looks.proofs.looks_in_windows.Goals as goal

pub group_by_sample-requires : goal.group_by_sample-requires
group_by_sample-requires c = record { keys_fit = keys_of_rows c.requires.0.call; count_in_bounds = c.requires.1.for_order; samples_in_bounds = omega (arith, c.requires.0.call.loaded.few) }

pub order_contigs-count-requires : goal.order_contigs-count-requires
order_contigs-count-requires c = record { count_in_bounds = omega (arith, c.requires.1.for_firsts); rows_for = rows_for_lem c.requires.0.call }

pub slice_bounds-contigs_looks-end : goal.slice_bounds-contigs_looks-end
slice_bounds-contigs_looks-end c = omega (arith, firsts_within c.requires.0.call c.requires.1.for_firsts (c.order_contigs-count.ensures (rows_for_lem c.requires.0.call)))

pub slice_bounds-contigs_looks-end-2 : goal.slice_bounds-contigs_looks-end-2
slice_bounds-contigs_looks-end-2 c = taken_exactly _ _ (omega (arith, firsts_within c.requires.0.call c.requires.1.for_firsts (c.order_contigs-count.ensures (rows_for_lem c.requires.0.call))))

pub contigs_looks-requires : goal.contigs_looks-requires
contigs_looks-requires c = (
  contigs_ready c.requires.0 c.requires.1.for_firsts (c.order_contigs-count.ensures (rows_for_lem c.requires.0.call)) c.group_by_sample.ensures.runs,
  omega (arith, c.requires.1.for_chosen, c.group_by_sample.auto.order),
  c.requires.2,
)

pub returns : goal.returns
returns c = λ ready.
    contigs_answered ready c.requires.1.for_firsts (c.order_contigs-count.ensures (rows_for_lem ready.call))
    c.group_by_sample.ensures.runs _ c.contigs_looks.result c.contigs_looks.ensures
