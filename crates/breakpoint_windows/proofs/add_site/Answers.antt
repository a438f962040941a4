-- The row of a block, or of another site.
use Prim.Native.Nat.{◌+◌, ◌-◌, ◌≤◌, suc, ℕ}
use borrow.Author.Rules.{rules}
use lib.Dec.{eqb}
use lib.ListN.{take}
use mathlib.Core.Bool.{false, true}
use mathlib.Core.List.{List, [], ◌∷◌, map}
use mathlib.Core.Path.{◌∙◌, ◌≡◌, sym}
use native.Mathlib.Numerals.{add-one}
use native.Mathlib.Omega.{arith}
use Rattle.definitions.specs.Lists.{numbers_from}
use Rattle.definitions.specs.Numbers.{max_number}
use Rattle.laws.proofs.Fillings.{plain_weigh, plain_place}
use Rattle.breakpoint_windows.proofs.AddedPlaces.{added_then}
use Rattle.breakpoint_windows.specs.Breakpoints.{row_breakpoints}
use Rattle.breakpoint_windows.specs.Fillings.{AddedRun, Ready}
use Rattle.breakpoint_windows.specs.declared.Adding.{Adding}
use Rattle.tables.specs.Tables.{column}
use Rattle.breakpoint_windows.proofs.add_site.Goals as goal

-- a range of one position
one_position : (p : ℕ) → numbers_from p (p + 1 - p) ≡ p ∷ []
unfolding numbers_from
one_position p = let one : p + 1 - p ≡ 1 = omega arith in rw one

module _ (rows : List ℕ) (site : ℕ) {start end : ℕ} (s : start ≡ column 2 rows site) (e : end ≡ column 3 rows site) where
  of-block : eqb (column 4 rows site) 1 ≡ true → row_breakpoints rows site ≡ start ∷ (end + 1) ∷ []
  unfolding row_breakpoints
  of-block b = rw (b, s, e, add-one (column 3 rows site))

  of_other : eqb (column 4 rows site) 1 ≡ false → start ≤ end → row_breakpoints rows site ≡ numbers_from start (end + 1 + 1 - start)
  unfolding row_breakpoints
  of_other b h =
      let count : suc end - start + 1 ≡ end + 1 + 1 - start = omega arith in
      rw (b, ← s, ← e, count)

  module _ {past : ℕ} {adding : Adding} {entry : List ℕ} (ready : Ready past adding.taken entry) where
    -- its start, and the position behind its end
    block : {between exit : List ℕ} {started r : Adding} → eqb (column 4 rows site) 1 ≡ true
        → AddedRun past adding (map plain_place (numbers_from start (start + 1 - start))) entry between started
        → AddedRun past started (map plain_place (numbers_from (end + 1) (end + 1 + 1 - (end + 1)))) between exit r
        → AddedRun past adding (map plain_place (row_breakpoints rows site)) entry exit r
    block t a b = record {
      added = rw (of-block t)
          (added_then (plain_place start ∷ []) (plain_place (end + 1) ∷ [])
          (rw (plain_weigh (take adding.taken.count entry) (start ∷ (end + 1) ∷ [])) ready.light)
          (rw (one_position start) at a.added) (rw (one_position (end + 1)) at b.added));
      run = b.run;
    }

  -- each position
  other : {past : ℕ} {adding : Adding} {entry exit : List ℕ} {r : Adding} → eqb (column 4 rows site) 1 ≡ false → start ≤ end
      → AddedRun past adding (map plain_place (numbers_from start (end + 1 + 1 - start))) entry exit r
      → AddedRun past adding (map plain_place (row_breakpoints rows site)) entry exit r
  other t h a = rw (of_other t h) a

pub overflow_add-next : goal.overflow_add-next
unfolding max_number
overflow_add-next c = let row = c.requires.row_in_range in
    let is-end = c.get-next.ensures ∙ c.end_of.ensures in
    let small = row.in_range_lem in
    search rules

pub overflow_add-start : goal.overflow_add-start
unfolding max_number
overflow_add-start c = let row = c.requires.row_in_range in
    let is-start = c.get-start.ensures ∙ c.start_of.ensures in
    let small = row.in_range_lem in
    let order = row.ordered in
    search rules

pub overflow_add-next-then-is_block : goal.overflow_add-next-then-is_block
unfolding max_number
overflow_add-next-then-is_block c = let is-end = c.get-next.ensures ∙ c.end_of.ensures in
    let small = c.requires.row_in_range.in_range_lem in
    search rules

pub returns-then-is_block : goal.returns-then-is_block
returns-then-is_block c = let is-start = c.get-start.ensures ∙ c.start_of.ensures in
    let is-end = c.get-next.ensures ∙ c.end_of.ensures in
    let is_block_lem = sym c.is_block.ensures ∙ c.if-is_block.true in
    let ready = c.requires.ready in
    block _ _ is-start is-end ready is_block_lem c.add_range-started.ensures c.add_range.ensures

pub overflow_add-next-2 : goal.overflow_add-next-2
unfolding max_number
overflow_add-next-2 c = let row = c.requires.row_in_range in
    let is-end = c.get-next.ensures ∙ c.end_of.ensures in
    let small = row.in_range_lem in
    search rules

pub returns : goal.returns
returns c = let is-start = c.get-start.ensures ∙ c.start_of.ensures in
    let is-end = c.get-next.ensures ∙ c.end_of.ensures in
    let is_block_lem = sym c.is_block.ensures ∙ c.if-is_block.false in
    let order = c.requires.row_in_range.ordered in
    other _ _ is-start is-end is_block_lem (omega arith) c.add_range-2.ensures
