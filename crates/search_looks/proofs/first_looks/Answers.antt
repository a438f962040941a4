-- The contig's sites in runs, then its looks.
use borrow.Author.Rules.{rules}
use native.Mathlib.Omega.{arith}
use Rattle.combined_list.proofs.OneContig.{taken_exactly}
use Rattle.covering_sites.proofs.Filled.{selected_known}
use Rattle.search_looks.proofs.AskedContig.{chosen_within, contig_ready, first_counted}
use Rattle.search_looks.proofs.first_looks.Goals as goal

pub select_contig-requires : goal.select_contig-requires
select_contig-requires c = record { bounded = c.requires.0.tables.grouped.bounded; order_in_bounds = c.requires.1; samples_in_bounds = omega (arith, c.requires.0.tables.loaded.few) }

pub slice_bounds-contig_looks-end : goal.slice_bounds-contig_looks-end
slice_bounds-contig_looks-end c = omega (arith, chosen_within c.requires.0 (selected_known c.requires.0.tables.grouped _ _ c.select_contig.ensures.runs))

pub slice_bounds-contig_looks-end-2 : goal.slice_bounds-contig_looks-end-2
slice_bounds-contig_looks-end-2 c = taken_exactly _ _ (omega (arith, chosen_within c.requires.0 (selected_known c.requires.0.tables.grouped _ _ c.select_contig.ensures.runs)))

pub contig_looks-requires : goal.contig_looks-requires
contig_looks-requires c = let runs = selected_known c.requires.0.tables.grouped _ _ c.select_contig.ensures.runs in
    (contig_ready c.requires.0 runs c.contig_name-contig.ensures c.given_clip-spans.ensures, c.requires.2)

pub returns : goal.returns
returns c = λ ready.
    let runs = selected_known ready.tables.grouped _ _ c.select_contig.ensures.runs in
    first_counted ready runs c.contig_name-contig.ensures c.given_clip-spans.ensures c.contig_looks.ensures
