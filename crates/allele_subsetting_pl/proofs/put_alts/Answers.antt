-- The first ALT, then in each turn a comma and an ALT: the ALTs from a place on are left, each behind a comma.
use Prim.Native.Nat.{◌+◌, ◌<◌, ◌^◌, suc, ℕ}
use borrow.Author.Rules.{rules}
use borrow.Author.Tests.{ltb-true}
use lib.Dec.{ltb}
use lib.ListN.{drop, get_or, length}
use mathlib.Core.Bool.{true}
use mathlib.Core.List.{List, [], ◌++◌, ◌∷◌}
use mathlib.Core.Path.{◌∙◌, ◌≡◌}
use native.Mathlib.Omega.{arith}
use Rattle.allele_subsetting_pl.specs.KeepLists.{AltNumbers, alt_with, alts_with}
use Rattle.definitions.specs.Bytes.{comma}
use Rattle.definitions.specs.Lists.{all_of}
use Rattle.kv_write.proofs.Joined.{each_end, each_next, each_after, joined_first, joined_none}
use Rattle.kv_write.proofs.Laying.{Left, done, fits_first, fits_rest, laid_append, laid_none, left_length, one, recast, room, several, start}
use Rattle.kv_write.specs.Laid.{Laid}
use Rattle.laws.proofs.Every.{every_at, every_passed}
use Rattle.allele_subsetting_pl.proofs.put_alts.Invariants.{behind}
use Rattle.allele_subsetting_pl.proofs.put_alts.Goals as goal

none-laid : (alts ns : List ℕ) → length ns ≡ 0 → alts_with alts ns ≡ []
unfolding alts_with
none-laid alts = joined_none comma (alt_with alts)

first_then : (alts : List ℕ) (n : ℕ) (ns : List ℕ) → alts_with alts (n ∷ ns) ≡ alt_with alts n ++ behind alts ns
unfolding alts_with behind
first_then alts n ns = joined_first comma (alt_with alts) (n ∷ ns) 0 (λ e. omega arith)

-- the numbers are a first one and the rest
module _ {alts numbers : List ℕ} {n : ℕ} {ns : List ℕ} (r : AltNumbers alts numbers) (parts : numbers ≡ n ∷ ns) where
  counted : 0 + length (alt_with alts n ++ behind alts ns) < 2 ^ 64
  counted = rw (parts, first_then alts n ns) at r.counted

  below : (k : ℕ) → k < length (n ∷ ns) → get_or (n ∷ ns) k 0 < 16
  below k h = ltb-true _ _ (every_at k 0 h (every_passed (λ a. ltb a 16) (n ∷ ns) (rw parts at r.alleles)))

-- a turn begins with a comma
comma_laid : (alts : List ℕ) {d₀ all d d' : List ℕ} {at₀ at at' : ℕ} (ns : List ℕ) (i : ℕ) → i < length ns → Laid d at (44 ∷ []) d' at'
    → Left d₀ at₀ all d at (behind alts (drop i ns)) → Left d₀ at₀ all d' at' (alt_with alts (get_or ns i 0) ++ behind alts (drop (i + 1) ns))
unfolding behind comma
comma_laid alts ns i h p l = one p (recast (each_next comma (alt_with alts) ns 0 i h) l)

pub returns-in_default : goal.returns-in_default
returns-in_default c = rw (none-laid c.args.alts.now _ c.in_default.ensures.cases) laid_none

pub overflow_cast-first : goal.overflow_cast-first
overflow_cast-first c = let small : c.in-Some.first.now < 16 = below c.requires c.in-Some.ensures.cases.0 0 (omega arith) in omega arith

pub put_alt-next-requires : goal.put_alt-next-requires
put_alt-next-requires c = rw c.new.ensures (fits_first _ (alt_with c.args.alts.now _) _ (counted c.requires c.in-Some.ensures.cases.0))

pub loop-number-init : goal.loop-number-init
loop-number-init c = start (fits_rest _ (rw c.new.ensures at c.put_alt-next.ensures) (counted c.requires c.in-Some.ensures.cases.0))

pub put_byte-next-requires : goal.put_byte-next-requires
unfolding behind
put_byte-next-requires c =
    omega (arith, (recast (each_next comma (alt_with c.args.alts.now) _ 0 _ c.loop-number-test.true) c.loop-number.invariant).fits)

pub overflow_cast-number : goal.overflow_cast-number
overflow_cast-number c =
    let small : get_or c.in-Some.rest.now c.loop-number.number-index 0 < 16
    = below c.requires c.in-Some.ensures.cases.0 (suc c.loop-number.number-index) (omega (arith, c.loop-number-test.true)) in
    omega arith

pub put_alt-next-requires-in-loop-number : goal.put_alt-next-requires-in-loop-number
put_alt-next-requires-in-loop-number c = rw c.new-in-loop-number.ensures (room (alt_with c.args.alts.now _) _
    (comma_laid c.args.alts.now _ _ c.loop-number-test.true c.put_byte-next.ensures c.loop-number.invariant))

pub loop-number-preserved : goal.loop-number-preserved
loop-number-preserved c = several (rw c.new-in-loop-number.ensures at c.put_alt-next-in-loop-number.ensures)
    (comma_laid c.args.alts.now _ _ c.loop-number-test.true c.put_byte-next.ensures c.loop-number.invariant)

pub returns : goal.returns
unfolding behind
returns c = rw c.in-Some.ensures.cases.0 (rw (first_then c.args.alts.now c.in-Some.first.now c.in-Some.rest.now)
    (laid_append (rw c.new.ensures at c.put_alt-next.ensures)
    (done (recast (each_end comma (alt_with c.args.alts.now) _ _ c.loop-number-test.false) c.loop-number.invariant))))
