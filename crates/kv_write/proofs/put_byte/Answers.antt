-- A store past the end would change nothing.
use borrow.Author.Rules.{rules}
use lib.Seq.{set_out}
use mathlib.Core.Path.{refl, sym}
use Rattle.kv_write.proofs.put_byte.Goals as goal

pub returns-else-at-out : goal.returns-else-at-out
returns-else-at-out c = record { next = refl; laid = sym (set_out _ _ _ c.if-at-out.false) }
