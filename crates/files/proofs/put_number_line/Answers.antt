-- The key, the number, LF.
use borrow.Author.Rules.{rules}
use native.Mathlib.Omega.{arith}
use Rattle.definitions.specs.Bytes.{line_feed}
use Rattle.kv_write.proofs.Laying.{laid_append}
use Rattle.files.proofs.LaidDigits.{length_most}
use Rattle.files.proofs.put_number_line.Goals as goal

pub put_decimal-behind_number-requires : goal.put_decimal-behind_number-requires
put_decimal-behind_number-requires c = let key = c.put_bytes-behind_key.ensures in
    omega (arith, key.next, c.requires, length_most c.args.number c.ranges.number.fits)

pub put_byte-requires : goal.put_byte-requires
put_byte-requires c = let number = c.put_decimal-behind_number.ensures in
    omega (arith, c.put_bytes-behind_key.ensures.next, number.next, c.requires, length_most c.args.number c.ranges.number.fits)

pub returns : goal.returns
unfolding line_feed
returns c = laid_append (laid_append c.put_bytes-behind_key.ensures c.put_decimal-behind_number.ensures) c.put_byte.ensures
