-- The spans of a clip text are few, and all breakpoints are below the first limit.
use Prim.Native.Nat.{◌*◌, ◌+◌, ◌-◌, ◌<◌, ◌≤◌, suc, ℕ}
use lib.Dec.{eqb}
use lib.ListN.{drop, length}
use mathlib.Core.Bool.{Bool, cond, false, true}
use mathlib.Core.List.{List, [], ◌∷◌}
use mathlib.Core.Path.{◌≡◌, refl}
use native.Mathlib.Omega.{arith}
use Rattle.clip_and_reference.specs.Groups.{groups_read, in_front, read_before, spans_read}
use Rattle.definitions.specs.Bytes.{same_bytes}
use Rattle.definitions.specs.Checked.{Checked, accepted, refused}
use Rattle.definitions.specs.ClipAndReference.{Span, span_of}
use Rattle.definitions.specs.Intervals.{span_breakpoints, spans_on}
use Rattle.definitions.specs.Limits.{max_text_length}
use Rattle.definitions.specs.Lines.{Line, lines_of}
use Rattle.definitions.specs.Lists.{groups_of, numbers_from}
use Rattle.definitions.specs.Numbers.{max_number}
use Rattle.laws.proofs.Every.{Every, also, every_append, every_filter, every_flat_map, every_map, every_numbers, nothing}
use Rattle.laws.proofs.Groups.{groups_few}
use Rattle.laws.proofs.Lines.{lines_few}
use Rattle.laws.proofs.Members.{filter_few}
use Rattle.laws.proofs.Orders.{every_ascending}
use Rattle.laws.proofs.Places.{no_change}
use Rattle.laws.proofs.SoundInput.{SoundSpan, span_sound}
use Rattle.tables.specs.Tables.{column}
use Rattle.breakpoint_windows.specs.Breakpoints.{RowInRange, all_breakpoints, row_breakpoints, spans_of}
use Rattle.breakpoint_windows.specs.Fillings.{past_all}

-- ---- the groups of a text up to the first faulty one

module _ {A : Type 0} (read : List Line → Checked A) where
  -- are no more than all groups
  read_few : (gs : List (List Line)) → length (read_before read gs) ≤ length gs
  unfolding read_before in_front
  read_few [] = omega arith
  read_few (g ∷ gs) = go (read g) (read_few gs)
    where
      go : (c : Checked A) → length (read_before read gs) ≤ length gs → length (in_front c (read_before read gs)) ≤ suc (length gs)
      go (refused n) h = omega arith
      go (accepted a) h = omega arith

  -- and what holds of each group that is accepted holds of each of them
  read_every : {P : A → Type 0} → ((g : List Line) (a : A) → read g ≡ accepted a → P a) → (gs : List (List Line)) → Every P (read_before read gs)
  unfolding read_before in_front
  read_every f [] = nothing
  read_every {P} f (g ∷ gs) = go (read g) refl (read_every f gs)
    where
      go : (c : Checked A) → read g ≡ c → Every P (read_before read gs) → Every P (in_front c (read_before read gs))
      go (refused n) e h = nothing
      go (accepted a) e h = also (f g a e) h

module _ (clip contig : List ℕ) where
  pub spans_few : length clip ≤ max_text_length → 2 * length (spans_of clip contig) < no_change
  unfolding spans_on groups_read
  spans_few h =
      let lines = lines_of (drop 0 clip) in
      omega (
        arith,
        filter_few (λ (c : Span). same_bytes contig c.contig) (spans_read clip 0),
        read_few span_of (groups_of 3 lines),
        groups_few 3 lines,
        lines_few (drop 0 clip),
      )

  pub spans_sound : Every SoundSpan (spans_of clip contig)
  unfolding spans_on groups_read
  spans_sound = every_filter _ (spans_read clip 0) (read_every span_of span_sound (groups_of 3 (lines_of (drop 0 clip))))

-- ---- below the first limit

row_below : {rows : List ℕ} {site : ℕ} → RowInRange rows site → Every (λ b. b < past_all) (row_breakpoints rows site)
unfolding row_breakpoints max_number
row_below {rows} {site} h = go (eqb (column 4 rows site) 1) h.ordered h.in_range_lem
  where
    go : (b : Bool) → column 2 rows site ≤ column 3 rows site → column 3 rows site ≤ 2147483647
        → Every (λ b. b < past_all)
        (cond b (column 2 rows site ∷ suc (column 3 rows site) ∷ []) (numbers_from (column 2 rows site) (suc (column 3 rows site) - column 2 rows site + 1)))
    go true order small =
        let first : column 2 rows site < past_all = omega arith in
        let next : suc (column 3 rows site) < past_all = omega arith in
        also first (also next nothing)
    go false order small = every_map (λ b k. omega arith) (every_numbers (column 2 rows site) (suc (column 3 rows site) - column 2 rows site + 1))

span_below : {c : Span} → SoundSpan c → Every (λ b. b < past_all) (span_breakpoints c)
unfolding span_breakpoints max_number
span_below {c} h =
    let first : c.start < past_all = omega (arith, h.ordered, h.in_range_lem) in
    let next : suc c.end < past_all = omega (arith, h.in_range_lem) in
    also first (also next nothing)

pub all_below : {rows sites : List ℕ} {spans : List Span} → Every (RowInRange rows) sites → Every SoundSpan spans
    → Every (λ b. b < past_all) (all_breakpoints rows sites spans)
unfolding all_breakpoints
all_below {rows} h k =
    every_ascending _ _ (every_append (every_flat_map (row_breakpoints rows) (every_map (λ site. row_below) h))
    (every_flat_map span_breakpoints (every_map (λ c. span_below) k)))
