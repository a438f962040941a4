-- The key, the lower allele, `/`, the higher and LF.
use borrow.Author.Rules.{rules}
use native.Mathlib.Omega.{arith}
use Rattle.genotype_values.proofs.Lines.{genotype_line_length, pair_laid}
use Rattle.genotype_values.proofs.put_pair_line.Goals as goal

pub put_bytes-behind_key-requires : goal.put_bytes-behind_key-requires
put_bytes-behind_key-requires c = let args = c.args in
    omega (arith, c.requires, genotype_line_length args.low.0 args.high.0)

pub put_number-behind_low-requires : goal.put_number-behind_low-requires
put_number-behind_low-requires c = let args = c.args in
    rw c.get.ensures (omega (arith, c.requires, c.put_bytes-behind_key.ensures.next, genotype_line_length args.low.0 args.high.0))

pub put_byte-behind_slash-requires : goal.put_byte-behind_slash-requires
put_byte-behind_slash-requires c = let args = c.args in
    let low = rw c.get.ensures at c.put_number-behind_low.ensures in
    omega (arith, c.requires, c.put_bytes-behind_key.ensures.next, low.next, genotype_line_length args.low.0 args.high.0)

pub put_number-behind_high-requires : goal.put_number-behind_high-requires
put_number-behind_high-requires c = let args = c.args in
    let low = rw c.get.ensures at c.put_number-behind_low.ensures in
    rw c.get-2.ensures
    (omega (arith, c.requires, c.put_bytes-behind_key.ensures.next, low.next, c.put_byte-behind_slash.ensures.next, genotype_line_length args.low.0 args.high.0))

pub put_byte-requires : goal.put_byte-requires
put_byte-requires c = let args = c.args in
    let low = rw c.get.ensures at c.put_number-behind_low.ensures in
    let high = rw c.get-2.ensures at c.put_number-behind_high.ensures in
    omega (arith, c.requires, c.put_bytes-behind_key.ensures.next, low.next, c.put_byte-behind_slash.ensures.next, high.next, genotype_line_length args.low.0 args.high.0)

pub returns : goal.returns
returns c = let args = c.args in
    let low = rw c.get.ensures at c.put_number-behind_low.ensures in
    let high = rw c.get-2.ensures at c.put_number-behind_high.ensures in
    pair_laid args.low.0 args.high.0 c.put_bytes-behind_key.ensures low c.put_byte-behind_slash.ensures high
    c.put_byte.ensures
