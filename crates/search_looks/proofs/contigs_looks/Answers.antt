-- All contigs are walked over; then the figure of the one that is asked for.
use borrow.Author.Rules.{rules}
use native.Mathlib.Omega.{arith}
use Rattle.std.proofs.lemmas.Result.{err_from_is_err_and}
use Rattle.combined_list.proofs.WrittenList.{measuring}
use Rattle.search_looks.proofs.Figure.{sites_ready, walk_accepted, walk_refused}
use Rattle.search_looks.proofs.contigs_looks.Goals as goal

pub walk_contigs-requires : goal.walk_contigs-requires
walk_contigs-requires c = (
  measuring c.requires.0.list,
  record {
    for_chosen = c.requires.1;
    for_window = c.requires.2;
    for_walk = record { for_held = omega arith; for_fresh = omega arith; for_alts = omega arith };
  },
)

pub asked_looks-requires : goal.asked_looks-requires
asked_looks-requires c = (
  sites_ready c.requires.0,
  omega (arith, c.requires.1, c.walk_contigs.auto.chosen),
  omega (arith, c.requires.2, c.walk_contigs.auto.scratch),
)

pub returns-in_err-walk_contigs : goal.returns-in_err-walk_contigs
returns-in_err-walk_contigs c = λ ready.
    let p = err_from_is_err_and c.from_residual.result c.from_residual.ensures.1 in
    rw (p.1, p.2) (walk_refused ready _ _ _ c.in_err-walk_contigs.ensures)

pub returns : goal.returns
returns c = λ ready. walk_accepted ready _ _ _ c.in_ok-walk_contigs.ensures c.asked_looks.ensures
