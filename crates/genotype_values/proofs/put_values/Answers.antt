-- GT of the values, and the six lines.
use borrow.Author.Rules.{rules}
use native.Mathlib.Omega.{arith}
use Rattle.genotype_values.proofs.Lines.{said_laid, said_length}
use Rattle.answers.specs.Options.{option_of}
use Rattle.genotype_values.proofs.put_values.Goals as goal

pub put_genotype_line-behind_gt-requires : goal.put_genotype_line-behind_gt-requires
put_genotype_line-behind_gt-requires c = let args = c.args in
    rw c.best_diploid_gt_from_pl-gt.ensures (omega (
      arith,
      c.requires,
      said_length (option_of args.gq) (option_of args.depths.dp) (option_of args.depths.mindp) args.ad.now args.pl.now,
    ))

pub put_optional_number_line-behind_gq-requires : goal.put_optional_number_line-behind_gq-requires
put_optional_number_line-behind_gq-requires c = let args = c.args in
    let gt = rw c.best_diploid_gt_from_pl-gt.ensures at c.put_genotype_line-behind_gt.ensures in
    omega (
      arith,
      c.requires,
      gt.next,
      said_length (option_of args.gq) (option_of args.depths.dp) (option_of args.depths.mindp) args.ad.now args.pl.now,
    )

pub put_optional_number_line-behind_dp-requires : goal.put_optional_number_line-behind_dp-requires
put_optional_number_line-behind_dp-requires c = let args = c.args in
    let gt = rw c.best_diploid_gt_from_pl-gt.ensures at c.put_genotype_line-behind_gt.ensures in
    omega (
      arith,
      c.requires,
      gt.next,
      c.put_optional_number_line-behind_gq.ensures.next,
      said_length (option_of args.gq) (option_of args.depths.dp) (option_of args.depths.mindp) args.ad.now args.pl.now,
    )

pub put_optional_number_line-behind_mindp-requires : goal.put_optional_number_line-behind_mindp-requires
put_optional_number_line-behind_mindp-requires c = let args = c.args in
    let gt = rw c.best_diploid_gt_from_pl-gt.ensures at c.put_genotype_line-behind_gt.ensures in
    omega (
      arith,
      c.requires,
      gt.next,
      c.put_optional_number_line-behind_gq.ensures.next,
      c.put_optional_number_line-behind_dp.ensures.next,
      said_length (option_of args.gq) (option_of args.depths.dp) (option_of args.depths.mindp) args.ad.now args.pl.now,
    )

pub put_optional_numbers_line-behind_ad-requires : goal.put_optional_numbers_line-behind_ad-requires
put_optional_numbers_line-behind_ad-requires c = let args = c.args in
    let gt = rw c.best_diploid_gt_from_pl-gt.ensures at c.put_genotype_line-behind_gt.ensures in
    omega (
      arith,
      c.requires,
      gt.next,
      c.put_optional_number_line-behind_gq.ensures.next,
      c.put_optional_number_line-behind_dp.ensures.next,
      c.put_optional_number_line-behind_mindp.ensures.next,
      said_length (option_of args.gq) (option_of args.depths.dp) (option_of args.depths.mindp) args.ad.now args.pl.now,
    )

pub put_optional_numbers_line-requires : goal.put_optional_numbers_line-requires
put_optional_numbers_line-requires c = let args = c.args in
    let gt = rw c.best_diploid_gt_from_pl-gt.ensures at c.put_genotype_line-behind_gt.ensures in
    omega (
      arith,
      c.requires,
      gt.next,
      c.put_optional_number_line-behind_gq.ensures.next,
      c.put_optional_number_line-behind_dp.ensures.next,
      c.put_optional_number_line-behind_mindp.ensures.next,
      c.put_optional_numbers_line-behind_ad.ensures.next,
      said_length (option_of args.gq) (option_of args.depths.dp) (option_of args.depths.mindp) args.ad.now args.pl.now,
    )

pub returns : goal.returns
returns c = let args = c.args in
    let gt = rw c.best_diploid_gt_from_pl-gt.ensures at c.put_genotype_line-behind_gt.ensures in
    said_laid (option_of args.gq) (option_of args.depths.dp) (option_of args.depths.mindp) args.ad.now args.pl.now gt
    c.put_optional_number_line-behind_gq.ensures
    c.put_optional_number_line-behind_dp.ensures
    c.put_optional_number_line-behind_mindp.ensures
    c.put_optional_numbers_line-behind_ad.ensures
    c.put_optional_numbers_line.ensures
