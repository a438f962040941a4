-- The sites by sample, the contigs in byte order of name, then the list.
use borrow.Author.Rules.{rules}
use native.Mathlib.Omega.{arith}
use Rattle.combined_list.proofs.ListReady.{firsts_within, keys_of_rows, list_ready, loaded_answered, rows_for_lem}
use Rattle.combined_list.proofs.OneContig.{taken_exactly}
use Rattle.combined_list.proofs.combine_in_windows.Goals as goal

pub group_by_sample-requires : goal.group_by_sample-requires
group_by_sample-requires c = record { keys_fit = keys_of_rows c.requires.0; count_in_bounds = c.requires.1.for_order; samples_in_bounds = omega (arith, c.requires.0.loaded.few) }

pub order_contigs-count-requires : goal.order_contigs-count-requires
order_contigs-count-requires c = record { count_in_bounds = omega (arith, c.requires.1.for_firsts); rows_for = rows_for_lem c.requires.0 }

pub slice_bounds-combine_contigs-end : goal.slice_bounds-combine_contigs-end
slice_bounds-combine_contigs-end c = omega (arith, firsts_within c.requires.0 c.requires.1.for_firsts (c.order_contigs-count.ensures (rows_for_lem c.requires.0)))

pub slice_bounds-combine_contigs-end-2 : goal.slice_bounds-combine_contigs-end-2
slice_bounds-combine_contigs-end-2 c = taken_exactly _ _ (omega (arith, firsts_within c.requires.0 c.requires.1.for_firsts (c.order_contigs-count.ensures (rows_for_lem c.requires.0))))

pub combine_contigs-requires : goal.combine_contigs-requires
combine_contigs-requires c = (
  list_ready c.requires.0 c.requires.1.for_firsts (c.order_contigs-count.ensures (rows_for_lem c.requires.0)) c.group_by_sample.ensures.runs,
  omega (arith, c.requires.1.for_chosen, c.group_by_sample.auto.order),
  c.requires.2,
)

pub returns : goal.returns
returns c = λ call.
    loaded_answered call c.requires.1.for_firsts (c.order_contigs-count.ensures (rows_for_lem call))
    c.group_by_sample.ensures.runs c.combine_contigs.ensures
