-- The records are measured, and then the list is written.
use borrow.Author.Rules.{rules}
use Rattle.std.proofs.lemmas.Result.{err_from_is_err_and}
use native.Mathlib.Omega.{arith}
use Rattle.answers.proofs.Answers.{answered_refused}
use Rattle.combined_list.proofs.WrittenList.{list_answered, list_refused, measurement, measuring, nothing_left}
use Rattle.combined_list.proofs.combine_contigs.Goals as goal

pub walk_contigs-requires : goal.walk_contigs-requires
walk_contigs-requires c = (
  measuring c.requires.0,
  record {
    for_chosen = c.requires.1;
    for_window = c.requires.2;
    for_walk = record { for_held = omega arith; for_fresh = omega arith; for_alts = omega arith };
  },
)

pub write_measured-requires : goal.write_measured-requires
write_measured-requires c = (
  measurement c.requires.0 _ _ c.in_ok-measured.ensures,
  record {
    for_chosen = omega (arith, c.requires.1, c.walk_contigs.auto.chosen);
    for_window = omega (arith, c.requires.2, c.walk_contigs.auto.scratch);
    for_walk = record {
      for_held = omega (arith, c.walk_contigs.auto.held);
      for_fresh = omega (arith, c.walk_contigs.auto.fresh);
      for_alts = omega (arith, c.walk_contigs.auto.alts);
    };
  },
)

pub returns-in_err-measured : goal.returns-in_err-measured
returns-in_err-measured c = λ ready.
    let p = err_from_is_err_and c.from_residual.result c.from_residual.ensures.1 in
    rw (p.1, p.2) (answered_refused (list_refused ready _ _ _ c.in_err-measured.ensures)
    (nothing_left c.walk_contigs.new.out _ c.walk_contigs.auto.out))

pub returns : goal.returns
returns c = λ ready.
    list_answered ready _ _ _ _ _ _ c.in_ok-measured.ensures
    (nothing_left c.walk_contigs.new.out _ c.walk_contigs.auto.out)
    c.write_measured.ensures
