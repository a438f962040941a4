-- The first number, then in each turn a comma and a number: the numbers from i on are left, each behind a comma, and
-- there is room for eleven bytes for each of them.
use Prim.Native.Nat.{◌*◌, ◌+◌, ◌-◌, ◌<◌, ◌^◌, ◌≤◌, suc, ℕ}
use borrow.Author.Rules.{rules}
use lib.ListN.{drop, get_or, length, length-set, set}
use mathlib.Core.List.{List, [], ◌∷◌}
use mathlib.Core.Path.{◌∙◌, refl}
use native.Mathlib.Omega.{arith}
use Rattle.definitions.specs.Numbers.{decimal}
use Rattle.kv_write.proofs.Laying.{Left, done, fits_rest, laid_append, laid_length, left_length, recast, several, start}
use Rattle.kv_write.proofs.NumberList.{behind, comma_laid, first_then, length_others, none_behind, others, others_are}
use Rattle.kv_write.proofs.StoredDigits.{length_most}
use Rattle.kv_write.specs.Laid.{Laid}
use Rattle.kv_write.proofs.store_numbers.Goals as goal

-- a turn: a comma, and a number behind it
turn : {d₀ all d d' : List ℕ} {at₀ at at' : ℕ} (ns : List ℕ) (i : ℕ) → i < length ns → get_or ns i 0 < 2 ^ 32
    → Laid (set d at 44) (at + 1) (decimal (get_or ns i 0)) d' at'
    → Left d₀ at₀ all d at (behind (drop i ns)) × (at + 11 * (length ns - i) ≤ length d)
    → Left d₀ at₀ all d' at' (behind (drop (i + 1) ns)) × (at' + 11 * (length ns - (i + 1)) ≤ length d')
turn {d = d} {at = at} ns i h u p l =
    let comma : Laid d at (44 ∷ []) (set d at 44) (at + 1) = record { next = refl; laid = refl } in
    (several p (comma_laid ns i h comma l.0), omega (arith, l.1, p.next, length_most _ u, laid_length p, length-set d at 44))

-- the numbers behind the first fit their type
rest_fits : (ns : List ℕ) → ((i : ℕ) → get_or ns i 0 < 2 ^ 32) → (i : ℕ) → get_or (drop 1 ns) i 0 < 2 ^ 32
rest_fits [] h i = h i
rest_fits (n ∷ ns) h i = h (suc i)

items_fit : (ns : List ℕ) → ((i : ℕ) → get_or ns i 0 < 2 ^ 32) → (i : ℕ) → get_or (others ns) i 0 < 2 ^ 32
items_fit ns h i = rw (others_are ns) (rest_fits ns h i)

pub loop-n-init : goal.loop-n-init
loop-n-init c =
    let ns = c.args.numbers.now in
    let first = c.store_number-next.ensures in
    let most = length_most (get_or ns 0 0) (omega (arith, c.type_inv.numbers 0)) in
    (start (fits_rest _ first (rw (first_then _ c.requires.0) at c.requires.1)), omega (arith, first.next, laid_length first, length_others ns, most))

pub bounds-out-next : goal.bounds-out-next
bounds-out-next c = omega (arith, c.loop-n.invariant.1)

pub overflow_add-next : goal.overflow_add-next
overflow_add-next c = omega (arith, c.loop-n.invariant.1, left_length c.loop-n.invariant.0)

pub store_number-next-requires-in-loop-n : goal.store_number-next-requires-in-loop-n
store_number-next-requires-in-loop-n c = simp length-set (omega (arith, c.loop-n.invariant.1))

pub loop-n-preserved : goal.loop-n-preserved
loop-n-preserved c = turn (others c.args.numbers.now) c.loop-n.n-index c.loop-n-test.true (items_fit c.args.numbers.now (λ i. omega (arith, c.type_inv.numbers i)) c.loop-n.n-index) c.store_number-next-in-loop-n.ensures c.loop-n.invariant

pub shape_of-out : goal.shape_of-out
shape_of-out c = left_length c.loop-n.invariant.0 ∙ c.store_number-next.auto.out

pub returns : goal.returns
returns c = rw (first_then _ c.requires.0) (laid_append c.store_number-next.ensures (done (recast (none_behind _ _ c.loop-n-test.false) c.loop-n.invariant.0)))
