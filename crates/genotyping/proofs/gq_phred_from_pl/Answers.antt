-- The PLs before i are read, two more in a turn; a last one may be left.
use Prim.Native.Nat.{◌-◌}
use lib.ListN.{length}
use borrow.Author.Rules.{rules}
use mathlib.Core.Path.{◌∙◌}
use native.Mathlib.Omega.{arith}
use Rattle.genotyping.specs.OneReading.{Read, least_of}
use Rattle.genotyping.proofs.OneReading.{gq_of_all, read_later}
use Rattle.genotyping.proofs.gq_phred_from_pl.Goals as goal

pub loop-i-init : goal.loop-i-init
loop-i-init c = c.read_first_pls-front.ensures

pub loop-i-smaller : goal.loop-i-smaller
loop-i-smaller c = omega arith

pub loop-i-preserved : goal.loop-i-preserved
loop-i-preserved c = let first = read_later _ _ c.loop-i.invariant (omega arith) c.with_later_pl-t.ensures in
    read_later _ _ first (omega arith) c.with_later_pl-t-in-loop-i.ensures

pub returns-then-i-pl : goal.returns-then-i-pl
returns-then-i-pl c = let read = c.loop-i.invariant in
    let all = read_later _ _ read c.if-i-pl.true c.with_later_pl-last.ensures in
    c.gq_from_least_pls.ensures ∙ gq_of_all _ _ all (omega arith)

pub returns : goal.returns
returns c = c.gq_from_least_pls-2.ensures ∙ gq_of_all _ _ c.loop-i.invariant c.if-i-pl.false
