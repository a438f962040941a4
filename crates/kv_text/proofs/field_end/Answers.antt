-- `position` counts the bytes before the first separator.
use Prim.Native.Nat.{◌-◌, ◌<◌, ℕ}
use borrow.Author.Rules.{rules}
use borrow.Author.Tests.{tests}
use lib.ListN.{drop, drop_of_length-le, length, length-drop}
use lib.Seq.{take_all}
use mathlib.Core.List.{List}
use mathlib.Core.Logic.{◌≢◌}
use mathlib.Core.Path.{◌∙◌, ◌≡◌, sym}
use native.Mathlib.Numerals.{add-one}
use native.Mathlib.Omega.{arith}
use Rattle.std.proofs.lemmas.Iterator.{IsFirst-from_position, YieldsList-from_slice, index_from_first}
use Rattle.std.specs.List.{AllWithin, HoldsAt}
use Rattle.std.specs.Option.{MatchOption, unwrap_or}
use Rattle.std.specs.Prelude.{Option}
use Rattle.kv_text.proofs.Fields.{field_more, field_none, field_stop}
use Rattle.kv_text.specs.Fields.{field_length}
use Rattle.kv_text.proofs.field_end.Goals as goal

counted : (separator : ℕ) (s : List ℕ) (r : Option ℕ)
    → MatchOption r (AllWithin (λ b. b ≢ separator) s 0 (length s)) (λ i. (i < length s) × HoldsAt (λ b. b ≡ separator) s i × AllWithin (λ b. b ≢ separator) s 0 i)
    → field_length separator s ≡ unwrap_or r (length s)
counted separator = index_from_first (field_length separator) (λ b. b ≡ separator) (λ b. b ≢ separator) (field_none separator)
    (λ b s e. field_stop separator b s e) (λ b s n. field_more separator b s n ∙ sym (add-one _))

pub returns-then-s-at : goal.returns-then-s-at
returns-then-s-at c = rw (drop_of_length-le c.args.s.now c.if-s-at.true, field_none) (omega arith)

pub returns-in-Some : goal.returns-in-Some
returns-in-Some c =
    let rest = drop c.args.at c.args.s.now in
    let whole = c.iter.ensures.rest ∙ take_all (length c.args.s.now - c.args.at) rest (omega (arith, length-drop c.args.at c.args.s.now)) in
    let first =
    IsFirst-from_position _ _ _ (λ b. b ≡ c.args.separator) (λ b. b ≢ c.args.separator) c.position.ensures.ran
    (YieldsList-from_slice rest whole) (λ x q k. search (rules, tests)) (λ x q k. search (rules, tests)) in
    rw (counted c.args.separator (drop c.args.at c.args.s.now) c.position.result first, c.in-Some.is)

pub returns-in-None : goal.returns-in-None
returns-in-None c =
    let rest = drop c.args.at c.args.s.now in
    let whole = c.iter.ensures.rest ∙ take_all (length c.args.s.now - c.args.at) rest (omega (arith, length-drop c.args.at c.args.s.now)) in
    let first =
    IsFirst-from_position _ _ _ (λ b. b ≡ c.args.separator) (λ b. b ≢ c.args.separator) c.position.ensures.ran
    (YieldsList-from_slice rest whole) (λ x q k. search (rules, tests)) (λ x q k. search (rules, tests)) in
    rw (counted c.args.separator (drop c.args.at c.args.s.now) c.position.result first, c.in-None.is) (omega (arith, length-drop c.args.at c.args.s.now))
