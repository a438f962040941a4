-- The numbers at the front of the table, if the output has room for them.
use Prim.Native.Nat.{ℕ}
use lib.ListN.{drop, length, take}
use mathlib.Core.List.{List, ◌++◌}
use mathlib.Core.Path.{◌∙◌, ◌≡◌, ap, refl, sym}
use native.Mathlib.Omega.{arith}
use Rattle.kv_write.proofs.Laying.{sets_front}
use Rattle.std.proofs.lemmas.List.{length-take-le}
use Rattle.position_lookup.specs.Found.{FoundGiven}
use Rattle.position_lookup.proofs.give_found.Goals as goal

pub returns-then-out-count : goal.returns-then-out-count
unfolding FoundGiven
returns-then-out-count c = (refl, c.if-out-count.true, refl)

pub returns : goal.returns
unfolding FoundGiven
returns c =
    let count : length (take c.args.count c.args.found.now) ≡ c.args.count = length-take-le c.args.count c.args.found.now c.requires in
    let laid =
    ap (λ (xs : List ℕ). xs ++ drop c.args.count c.args.out.now) c.copy_over.ensures
    ∙ ap (λ (n : ℕ). take c.args.count c.args.found.now ++ drop n c.args.out.now) (sym count)
    ∙ sym (sets_front c.args.out.now (take c.args.count c.args.found.now) (omega (arith, c.if-out-count.false))) in
    (refl, refl, c.if-out-count.false, laid)
