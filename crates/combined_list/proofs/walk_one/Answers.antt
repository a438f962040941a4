-- The contig's sites in runs, then its records.
use borrow.Author.Rules.{rules}
use native.Mathlib.Omega.{arith}
use Rattle.combined_list.proofs.OneContig.{one_walked, one_windows}
use Rattle.covering_sites.proofs.Filled.{selected_known}
use Rattle.combined_list.proofs.walk_one.Goals as goal

pub select_contig-requires : goal.select_contig-requires
select_contig-requires c = record { bounded = c.requires.0.tables.grouped.bounded; order_in_bounds = c.requires.1.for_chosen; samples_in_bounds = omega (arith, c.requires.0.tables.loaded.few) }

pub walk_windows-requires : goal.walk_windows-requires
walk_windows-requires c = let runs = selected_known c.requires.0.tables.grouped _ _ c.select_contig.ensures.runs in (
  one_windows c.requires.0.tables c.requires.0.is_first runs c.contig_name-contig.ensures c.given_clip-spans.ensures,
  record { d₀ = c.requires.0.d₀; bytes = c.requires.0.bytes; records = c.requires.0.records; progress = c.requires.0.progress },
  c.requires.1.for_walk,
  c.requires.1.for_window,
)

pub shape_of-chosen : goal.shape_of-chosen
shape_of-chosen c = c.select_contig.auto.chosen

pub returns : goal.returns
returns c = λ ready.
    let runs = selected_known ready.tables.grouped _ _ c.select_contig.ensures.runs in
    one_walked ready.tables ready.is_first runs c.contig_name-contig.ensures c.given_clip-spans.ensures _ _ _ _ _
    c.walk_windows.ensures ready.d₀ ready.bytes ready.records ready.progress
