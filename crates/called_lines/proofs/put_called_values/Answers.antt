-- GQ of the PL, and the four lines.
use borrow.Author.Rules.{rules}
use native.Mathlib.Omega.{arith}
use Rattle.called_lines.proofs.SampleValues.{called_laid, called_length}
use Rattle.answers.specs.Options.{option_of}
use Rattle.called_lines.proofs.put_called_values.Goals as goal

pub put_optional_number_line-behind_gq-requires : goal.put_optional_number_line-behind_gq-requires
put_optional_number_line-behind_gq-requires c = rw (c.gq_of_pl-gq.ensures) (omega (
  arith,
  c.requires,
  called_length (option_of (c.args.dp)) (c.args.ad.now)
      (c.args.pl.now),
))

pub put_optional_number_line-behind_dp-requires : goal.put_optional_number_line-behind_dp-requires
put_optional_number_line-behind_dp-requires c = let gq = rw (c.gq_of_pl-gq.ensures) at (c.put_optional_number_line-behind_gq.ensures) in
    omega (arith, c.requires, gq.next, called_length (option_of (c.args.dp)) (c.args.ad.now) (c.args.pl.now))

pub put_optional_numbers_line-behind_ad-requires : goal.put_optional_numbers_line-behind_ad-requires
put_optional_numbers_line-behind_ad-requires c = let gq = rw (c.gq_of_pl-gq.ensures) at (c.put_optional_number_line-behind_gq.ensures) in
    omega (
      arith,
      c.requires,
      gq.next,
      c.put_optional_number_line-behind_dp.ensures.next,
      called_length
          (option_of (c.args.dp)) (c.args.ad.now) (c.args.pl.now),
    )

pub put_optional_numbers_line-requires : goal.put_optional_numbers_line-requires
put_optional_numbers_line-requires c = let gq = rw (c.gq_of_pl-gq.ensures) at (c.put_optional_number_line-behind_gq.ensures) in
    omega (
      arith,
      c.requires,
      gq.next,
      c.put_optional_number_line-behind_dp.ensures.next,
      c.put_optional_numbers_line-behind_ad.ensures.next,
      called_length (option_of (c.args.dp)) (c.args.ad.now)
          (c.args.pl.now),
    )

pub returns : goal.returns
returns c = called_laid (option_of (c.args.dp)) (c.args.ad.now) (c.args.pl.now)
    (rw (c.gq_of_pl-gq.ensures) at (c.put_optional_number_line-behind_gq.ensures))
    (c.put_optional_number_line-behind_dp.ensures) (c.put_optional_numbers_line-behind_ad.ensures)
    (c.put_optional_numbers_line.ensures)
