-- `any` tells whether one of the names, by their numbers, is the same.
use Prim.Native.Nat.{suc, zero, ℕ}
use borrow.Author.Rules.{rules}
use borrow.Author.Tests.{tests}
use mathlib.Core.Bool.{Bool, ◌||◌}
use mathlib.Core.List.{List, [], ◌∷◌, map}
use mathlib.Core.Path.{◌∙◌, ◌≡◌, ap, refl}
use native.Mathlib.Numerals.{add-one}
use native.Mathlib.Omega.{arith}
use Rattle.std.proofs.lemmas.Iterator.{YieldsList-from_range, cases_from_any}
use Rattle.std.specs.List.{range_with_len}
use Rattle.answers.proofs.Chains.{Fails, Passes, any_answer}
use Rattle.definitions.specs.Bytes.{same_bytes}
use Rattle.definitions.specs.Lists.{any_of, numbers_from}
use Rattle.tables.specs.Tables.{name_at, names_in}
use Rattle.sample_names.proofs.name_known.Goals as goal

numbers : (first count : ℕ) → range_with_len first count ≡ numbers_from first count
unfolding numbers_from
numbers first zero = refl
numbers first (suc n) = ap (λ (l : List ℕ). first ∷ l) (rw add-one (numbers (suc first) n))

any_map : {A : Type 0} (p : A → Bool) (f : ℕ → A) (l : List ℕ) → any_of (λ i. p (f i)) l ≡ any_of p (map f l)
unfolding any_of
any_map p f [] = refl
any_map p f (i ∷ l) = ap (λ (b : Bool). p (f i) || b) (any_map p f l)

pub returns : goal.returns
unfolding name_at names_in
returns c =
    let known : ℕ → Bool = λ i. same_bytes c.args.name.now (name_at c.args.s.now c.args.names.now i) in
    any_answer known (range_with_len 0 c.args.count) c.any.result
    (cases_from_any _ _ _ (Passes known) (Fails known) c.any.ensures.ran
    (YieldsList-from_range 0 c.args.count c.args.count refl (omega arith)) (λ x q k. search (rules, tests)) (λ x q k. search (rules, tests)))
    ∙ ap (any_of known) (numbers 0 c.args.count)
    ∙ any_map (same_bytes c.args.name.now) (name_at c.args.s.now c.args.names.now) (numbers_from 0 c.args.count)
