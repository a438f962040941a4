-- All PLs before the first other one are alike, and that one gives a second.
use Prim.Native.Nat.{◌<◌, suc, zero, ℕ}
use borrow.Author.Rules.{rules}
use borrow.Author.Tests.{tests}
use lib.ListN.{get_or, length}
use mathlib.Core.List.{List}
use mathlib.Core.Logic.{◌≢◌}
use mathlib.Core.Path.{◌≡◌, refl}
use native.Mathlib.Omega.{arith}
use Rattle.std.proofs.lemmas.Iterator.{IsFirst-from_position, YieldsList-from_slice}
use Rattle.std.specs.List.{AllWithin, HoldsAt}
use Rattle.genotyping.proofs.OneReading.{Alike, alike_all, alike_other, alike_to, read_none}
use Rattle.genotyping.proofs.read_first_pls.Goals as goal

pub returns-then-pl-eq0 : goal.returns-then-pl-eq0
returns-then-pl-eq0 c = read_none _ c.if-pl-eq0.true c.equal_pls-found.ensures

-- the first PL is not another one
later : (pl : List ℕ) (i : ℕ) → HoldsAt (λ p. p ≢ get_or pl 0 0) pl i → 0 < i
later pl zero h = absurd (h 0 refl)
later pl (suc i) h = omega arith

alike_before : (pl : List ℕ) → 0 < length pl → (i : ℕ) → i < length pl → HoldsAt (λ p. p ≢ get_or pl 0 0) pl i → AllWithin (λ p. p ≡ get_or pl 0 0) pl 0 i
    → Alike pl (get_or pl 0 0) i
alike_before pl some i less other same =
    let behind = later pl i other in
    alike_to pl some i behind (omega arith) (λ k before. same k 0 (omega arith) before)

pub bounds-pl-i : goal.bounds-pl-i
bounds-pl-i c =
    let pl = c.args.pl.now in
    let first =
    IsFirst-from_position _ _ _ (λ p. p ≢ get_or pl 0 0) (λ p. p ≡ get_or pl 0 0) c.position.ensures.ran
    (YieldsList-from_slice pl cc) (λ x q k. search (rules, tests)) (λ x q k. search (rules, tests)) in
    (rw c.in-Some.is at first).0

pub returns-in-Some : goal.returns-in-Some
returns-in-Some c =
    let pl = c.args.pl.now in
    let first =
    IsFirst-from_position _ _ _ (λ p. p ≢ get_or pl 0 0) (λ p. p ≡ get_or pl 0 0) c.position.ensures.ran
    (YieldsList-from_slice pl cc) (λ x q k. search (rules, tests)) (λ x q k. search (rules, tests)) in
    let h = rw c.in-Some.is at first in
    alike_other pl _ _ (alike_before pl (omega arith) _ h.0 h.1 h.2) h.0 (h.1 0) c.equal_pls-equal.ensures c.with_next_pl-found.ensures

pub returns-in-None : goal.returns-in-None
returns-in-None c =
    let pl = c.args.pl.now in
    let first =
    IsFirst-from_position _ _ _ (λ p. p ≢ get_or pl 0 0) (λ p. p ≡ get_or pl 0 0) c.position.ensures.ran
    (YieldsList-from_slice pl cc) (λ x q k. search (rules, tests)) (λ x q k. search (rules, tests)) in
    let h = rw c.in-None.is at first in
    let all = alike_to pl (omega arith) (length pl) (omega arith) (omega arith) (λ k less. h k 0 (omega arith) less) in
    alike_all pl _ _ all (omega arith) (omega arith) c.equal_pls-found-in-None.ensures
