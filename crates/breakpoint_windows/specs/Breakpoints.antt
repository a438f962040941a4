-- The breakpoints that rows of sites and clip spans give, and what one window of them answers.
use Prim.Native.Nat.{◌+◌, ◌-◌, ◌≤◌, compare, suc, ℕ}
use Rattle.std.specs.Prelude.{eqb, ltb, length, take, cond, ◌≡◌}
use mathlib.Core.List.{List, [], ◌++◌, ◌∷◌, flat_map, map}
use Rattle.std.proofs.Math.Option.{some}
use Rattle.clip_and_reference.specs.Groups.{spans_read}
use Rattle.definitions.specs.ClipAndReference.{Span}
use Rattle.definitions.specs.Intervals.{span_breakpoints, spans_on}
use Rattle.definitions.specs.Lists.{ascending, filter_by, numbers_from}
use Rattle.definitions.specs.Numbers.{max_number}
use Rattle.laws.proofs.Fillings.{place_of}
use Rattle.laws.proofs.Windows.{window, window_end}
use Rattle.tables.specs.Tables.{column}
use Rattle.breakpoint_windows.specs.declared.Window.{Window}

-- the breakpoints of the site in a row (`site_breakpoints`)
unfoldable pub row_breakpoints : List ℕ → ℕ → List ℕ
row_breakpoints rows site =
    let start = column 2 rows site in
    let next = suc (column 3 rows site) in
    cond (eqb (column 4 rows site) 1) (start ∷ next ∷ []) (numbers_from start (next - start + 1))

-- the site in a row starts at or before its end, which is a number that a text can hold
pub record RowInRange (rows : List ℕ) (site : ℕ) : Type 0 where
  pub ordered : column 2 rows site ≤ column 3 rows site
  pub in_range_lem : column 3 rows site ≤ max_number

-- the spans on a contig of a clip text, up to the first faulty group
abbrev pub spans_of : List ℕ → List ℕ → List Span
spans_of clip contig = spans_on contig (some (spans_read clip 0))

-- the breakpoints of the sites in rows and of spans, in ascending order, none twice
unfoldable pub all_breakpoints : List ℕ → List ℕ → List Span → List ℕ
all_breakpoints rows sites spans = ascending compare (flat_map (row_breakpoints rows) sites ++ flat_map span_breakpoints spans)

-- The breakpoints past a position and below some limit stand at the front, ascending, each as a place with its change of depth. There is
-- one of them if there is one past the position, and the answer says whether there are more behind them.
pub record NextBreakpoints (all : List ℕ) (spans : List Span) (past : ℕ) (entry exit : List ℕ) (r : Window) : Type 0 where
  pub limit : ℕ
  pub stored : take r.count exit ≡ map (place_of spans) (window past limit all)
  pub room : r.count ≤ length entry
  pub long : length exit ≡ length entry
  pub more : r.more ≡ ltb 0 (length (filter_by (ltb (window_end past (window past limit all))) all))
  pub some_there : ltb 0 r.count ≡ ltb 0 (length (filter_by (ltb past) all))
