-- From the samples of a list and its `records` line to its heading.
use Prim.Native.Nat.{◌+◌, suc, ℕ}
use lib.ListN.{drop, get_or, length}
use lib.Seq.{get_or-drop}
use mathlib.Core.List.{List}
use mathlib.Core.Option.{bind, none}
use mathlib.Core.Path.{◌∙◌, ◌≡◌, ap, refl}
use native.Mathlib.Nat.{add-zero}
use native.Mathlib.Omega.{arith}
use Rattle.std.specs.Prelude as std
use Rattle.answers.specs.declared.Refusal.{Refusal}
use Rattle.cohort.proofs.Whole.{names_count}
use Rattle.definitions.specs.Checked.{or_refuse, refused}
use Rattle.definitions.specs.Cohort.{samples_of}
use Rattle.definitions.specs.Lines.{Line, key_of, line_at, lines_of, value_of}
use Rattle.definitions.specs.Numbers.{number}
use Rattle.kv_text.proofs.Groups.{behind_next}
use Rattle.kv_text.specs.Lines.{LineReads, line_value}
use Rattle.laws.proofs.Checked.{then, then_refused}
use Rattle.sample_names.specs.Header.{HeaderTo}
use Rattle.tables.proofs.Cleared.{scratch_same}
use Rattle.tables.specs.Tables.{names_in}
use Rattle.list_walk.specs.Walk as walk
use Rattle.list_walk.specs.Walk.{FigureRead, FigureRefused, FigureTo, HeaderRead, heading_of}
use Rattle.list_walk.specs.declared.ListHeader.{ListHeader}

pub samples_refused : (s : List ℕ) (row : ℕ) → samples_of (lines_of s) ≡ refused row → heading_of s ≡ refused row
unfolding heading_of
samples_refused s row e = then_refused _ _ e

module _ {s names₀ names : List ℕ} {samples at : ℕ} (held : HeaderTo s names₀ names samples at) where
  -- the line behind the names is the one at the offset
  records_line : line_at (lines_of s) (suc (length (names_in s names samples))) "records" number ≡ or_refuse 1 (line_value s at (key_of "records") number)
  unfolding line_at line_value
  records_line =
      let here : get_or (lines_of s) (suc samples) none ≡ get_or (lines_of (drop at s)) 0 none =
      rw (← held.behind.lines, get_or-drop (suc samples) (lines_of s) 0 none, add-zero (suc samples)) in
      rw (← names_count s names samples) (ap (λ (l : Line). or_refuse 1 (bind (value_of (key_of "records") l) number)) here)

  pub figure_refused : {names' : List ℕ} {row : ℕ} → FigureRefused s at names names' row → heading_of s ≡ refused row
  unfolding heading_of or_refuse
  figure_refused {row = row} f = rw f.row_is (then _ _ held.value (then_refused _ _ (records_line ∙ rw f.value)))

  pub figure_read : {names' : List ℕ} {h : ListHeader} → FigureTo s samples at names names' h → walk.HeaderTo s names₀ names' h
  unfolding heading_of or_refuse LineReads
  figure_read {h = h} f = record {
    value = rw (f.same, f.samples_are) (then _ _ held.value (then _ _ (records_line ∙ rw f.line.value) refl));
    groups =
        let lines = (behind_next held.behind "records" number h.records f.end f.line).lines in
        let k : 2 + samples ≡ suc samples + 1 = omega arith in
        rw (f.samples_are, f.next_is, k) lines;
    few = rw f.samples_are held.few;
    rest = rw (f.same, f.samples_are) held.rest;
  }

  pub heading_read : (names' : List ℕ) (r : std.Result ListHeader Refusal) → length names ≡ length names₀ → FigureRead s samples at names names' r
      → HeaderRead s names₀ names' r
  unfolding FigureRead HeaderRead
  heading_read names' (std.Ok h) same f = figure_read f
  heading_read names' (std.Err e) same f = record { value = figure_refused f; cleared = f.cleared ∙ scratch_same names names₀ same }
