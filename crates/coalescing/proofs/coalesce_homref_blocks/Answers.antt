-- By whether it joins the one that is held back.
use borrow.Author.Rules.{rules}
use mathlib.Core.Path.{◌∙◌, sym}
use Rattle.coalescing.proofs.StepLaws.{held_instead}
use Rattle.coalescing.specs.Held.{held_after}
use Rattle.coalescing.specs.Steps.{block_lays, block_stepped}
use Rattle.coalescing.proofs.coalesce_homref_blocks.Goals as goal

pub returns-then-joins : goal.returns-then-joins
unfolding block_stepped block_lays held_after
returns-then-joins c = let joins = sym c.joins.ensures ∙ c.if-joins.true in
    record { step = rw joins (cc c.set_end.ensures); laid = rw joins; lines = rw joins }

pub returns : goal.returns
unfolding block_lays held_after
returns c = let apart = sym c.joins.ensures ∙ c.if-joins.false in
    let laid = c.lay_pending-laid.ensures in
    let held = c.put_bytes-len.ensures in
    record { step = held_instead _ _ _ _ _ _ _ _ apart laid.step held.next; laid = rw apart laid.laid; lines = rw apart held.laid }
