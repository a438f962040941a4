-- The key, the ALTs and LF.
use borrow.Author.Rules.{rules}
use native.Mathlib.Omega.{arith}
use Rattle.called_lines.proofs.Alts.{alt_line_laid, alt_line_length}
use Rattle.called_lines.proofs.put_called_alts.Goals as goal

pub put_bytes-behind_key-requires : goal.put_bytes-behind_key-requires
put_bytes-behind_key-requires c = omega (arith, c.requires, alt_line_length (c.args.alts.now))

pub alleles_without_non_ref-behind_alts-requires : goal.alleles_without_non_ref-behind_alts-requires
alleles_without_non_ref-behind_alts-requires c = omega (arith, c.requires, c.put_bytes-behind_key.ensures.next, alt_line_length (c.args.alts.now))

pub put_byte-requires : goal.put_byte-requires
put_byte-requires c = omega (
  arith,
  c.requires,
  c.put_bytes-behind_key.ensures.next,
  c.alleles_without_non_ref-behind_alts.ensures.next,
  alt_line_length (c.args.alts.now),
)

pub returns : goal.returns
returns c = alt_line_laid (c.args.alts.now) (c.put_bytes-behind_key.ensures) (c.alleles_without_non_ref-behind_alts.ensures)
    (c.put_byte.ensures)
