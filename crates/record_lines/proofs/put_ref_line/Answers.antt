-- The key, the letters as capitals, LF.
use borrow.Author.Rules.{rules}
use mathlib.Core.List.{map}
use native.Mathlib.Omega.{arith}
use Rattle.definitions.specs.Alleles.{capital}
use Rattle.record_lines.proofs.Head.{ref_line_laid, ref_line_length}
use Rattle.record_lines.proofs.put_ref_line.Goals as goal

pub put_bytes-behind_key-requires : goal.put_bytes-behind_key-requires
put_bytes-behind_key-requires c = omega (arith, c.requires, ref_line_length (map capital c.args.reference.now))

pub put_letters-behind_letters-requires : goal.put_letters-behind_letters-requires
put_letters-behind_letters-requires c = omega (arith, c.requires, c.put_bytes-behind_key.ensures.next, ref_line_length (map capital c.args.reference.now))

pub put_byte-requires : goal.put_byte-requires
put_byte-requires c = omega (
  arith,
  c.requires,
  c.put_bytes-behind_key.ensures.next,
  c.put_letters-behind_letters.ensures.next,
  ref_line_length (map capital c.args.reference.now),
)

pub returns : goal.returns
returns c = ref_line_laid _ c.put_bytes-behind_key.ensures c.put_letters-behind_letters.ensures c.put_byte.ensures
