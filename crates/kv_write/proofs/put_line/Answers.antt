-- The key, the value, LF.
use borrow.Author.Rules.{rules}
use lib.ListN.{length-append}
use native.Mathlib.Omega.{arith}
use Rattle.definitions.specs.Bytes.{line_feed}
use Rattle.kv_write.proofs.Laying.{laid_append}
use Rattle.kv_write.proofs.put_line.Goals as goal

pub put_bytes-behind_key-requires : goal.put_bytes-behind_key-requires
put_bytes-behind_key-requires c = let pre = c.requires in
    omega (arith, simp length-append at pre)

pub put_bytes-behind_value-requires : goal.put_bytes-behind_value-requires
put_bytes-behind_value-requires c = let pre = c.requires in
    omega (arith, simp length-append at pre)

pub put_byte-requires : goal.put_byte-requires
put_byte-requires c = let pre = c.requires in
    omega (arith, simp length-append at pre)

pub returns : goal.returns
unfolding line_feed
returns c = let key = c.put_bytes-behind_key.ensures in
    let value = c.put_bytes-behind_value.ensures in
    laid_append (laid_append key value) c.put_byte.ensures
