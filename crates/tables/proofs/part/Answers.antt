-- By where the part lies.
use Prim.Native.Nat.{◌≤◌}
use borrow.Author.Rules.{rules}
use lib.ListN.{length}
use mathlib.Core.Path.{sym}
use native.Mathlib.Omega.{arith}
use Rattle.tables.proofs.Parts.{between_none, between_past, between_rest}
use Rattle.tables.proofs.part.Goals as goal

pub returns-then-to-from : goal.returns-then-to-from
returns-then-to-from c = sym (between_none _ _ _ c.if-to-from.true)

pub returns-then-s-from : goal.returns-then-s-from
returns-then-s-from c = sym (between_past _ _ _ c.if-s-from.true)

pub returns-then-s-to : goal.returns-then-s-to
returns-then-s-to c = let h : length (c.args.s.now) ≤ c.args.to = omega arith in between_rest _ _ _ h
