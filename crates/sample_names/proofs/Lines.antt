-- The `sample` lines one behind the other, and the header of them.
use Prim.Native.Nat.{◌*◌, ◌+◌, ◌-◌, ◌<◌, ◌≤◌, suc, zero, ℕ}
use borrow.Author.Tests.{le-leb}
use lib.ListN.{drop, get_or, length, length-set, set}
use lib.Seq.{drop-drop, drop-set-lt, get_or-drop}
use mathlib.Core.List.{List, [], ◌∷◌, map, reverse, reverse-reverse}
use mathlib.Core.Option.{none}
use mathlib.Core.Path.{◌∙◌, ◌≡◌, ap, ap₂, refl, sym}
use native.Mathlib.Nat.{add-zero, sub-zero}
use native.Mathlib.Omega.{arith}
use Rattle.definitions.specs.Checked.{◌>>=◌, accepted, read_each, refused}
use Rattle.definitions.specs.Cohort.{sample_name, samples_of}
use Rattle.definitions.specs.Limits.{max_samples}
use Rattle.definitions.specs.Lines.{Line, lines_of}
use Rattle.definitions.specs.Lists.{numbers_from}
use Rattle.kv_text.proofs.Groups.{behind_start, continued, continued_end, continued_next, continued_refused, continued_start}
use Rattle.kv_text.specs.Fields.{between}
use Rattle.kv_text.specs.Lines.{Behind}
use Rattle.laws.proofs.Checked.{required, then}
use Rattle.laws.proofs.Tests.{both}
use Rattle.tables.specs.Tables.{names_in}
use Rattle.sample_names.proofs.Names.{names_reversed, stored}
use Rattle.sample_names.specs.Header.{CountTo, HeaderTo, NamesTo, SampleTo, first_line, lines_at}

-- lines behind lines
behind_then : {s : List ℕ} {at at' at'' : ℕ} (k m : ℕ) → Behind s at k at' → Behind s at' m at'' → Behind s at (k + m) at''
behind_then {s} {at} k m b c = record {
  lines = sym (drop-drop m k (lines_of (drop at s))) ∙ ap (drop m) b.lines ∙ c.lines;
  forward = omega (arith, b.forward, c.forward);
}

-- ---- read_each, by its first line

module _ (before : List (List ℕ)) (l : Line) (ls : List Line) where
  each_refused : (row : ℕ) → sample_name before l ≡ refused row → read_each sample_name before (l ∷ ls) ≡ refused row
  unfolding read_each ◌>>=◌
  each_refused row h = rw h

  each_next : (n : List ℕ) → sample_name before l ≡ accepted n
      → read_each sample_name before (l ∷ ls) ≡ (read_each sample_name (n ∷ before) ls >>= λ rest. accepted (n ∷ rest))
  unfolding read_each ◌>>=◌
  each_next n h = rw h

-- ---- the loop over the lines

-- the names of the table, nearest first
abbrev pub nearest : List ℕ → List ℕ → ℕ → List (List ℕ)
nearest s table i = reverse (names_in s table i)

-- After i lines the text goes on at `at`, and all lines give the names of the table and then those of the lines left.
pub record Turn (s : List ℕ) (at₀ count : ℕ) (table₀ table : List ℕ) (at i : ℕ) : Type 0 where
  pub few : i ≤ count
  pub long : length table ≡ length table₀
  pub behind : Behind s at₀ i at
  pub within : at ≤ length s
  pub rest : drop (2 * count) table ≡ drop (2 * count) table₀
  pub same : read_each sample_name [] (lines_at s at₀ 0 count)
      ≡ continued (nearest s table i) (read_each sample_name (nearest s table i) (lines_at s at₀ i (count - i)))

pub turn_start : (s : List ℕ) (at count : ℕ) (table : List ℕ) → at ≤ length s → Turn s at count table table at 0
unfolding names_in numbers_from
turn_start s at count table h = record {
  few = omega arith;
  long = refl;
  behind = behind_start s at;
  within = h;
  rest = refl;
  same = rw sub-zero (continued_start (read_each sample_name [] (lines_at s at 0 count)));
}

module _ (s : List ℕ) (at₀ count : ℕ) (table₀ table : List ℕ) (at i : ℕ) (t : Turn s at₀ count table₀ table at i) where
  next_line : i < count → lines_at s at₀ i (count - i) ≡ first_line s at ∷ lines_at s at₀ (i + 1) (count - (i + 1))
  unfolding lines_at numbers_from
  next_line h =
      let m : count - i ≡ suc (count - (i + 1)) = omega arith in
      let n : suc i ≡ i + 1 = omega arith in
      let here : get_or (lines_of (drop at₀ s)) i none ≡ first_line s at =
      rw (← t.behind.lines, get_or-drop i (lines_of (drop at₀ s)) 0 none, add-zero i) in
      rw (m, n) (ap (λ (l : Line). l ∷ map (λ j. get_or (lines_of (drop at₀ s)) j none) (numbers_from (i + 1) (count - (i + 1)))) here)

  pub turn_refused : (row : ℕ) → i < count → sample_name (nearest s table i) (first_line s at) ≡ refused row
      → read_each sample_name [] (lines_at s at₀ 0 count) ≡ refused row
  turn_refused row h r =
      t.same ∙ rw (next_line h, each_refused (nearest s table i) (first_line s at) (lines_at s at₀ (i + 1) (count - (i + 1))) row r)
      (continued_refused (nearest s table i) row)

  pub turn_next : (a e : ℕ) → i < count → 2 * count ≤ length table → SampleTo s at (nearest s table i) a e
      → Turn s at₀ count table₀ (stored table i a e) (e + 1) (i + 1)
  turn_next a e h room r =
      let place : 2 * i + 1 < length table = omega arith in
      let rest : List Line = lines_at s at₀ (i + 1) (count - (i + 1)) in
      record {
        few = omega arith;
        long = simp length-set t.long;
        behind = behind_then i 1 t.behind r.behind;
        within = omega (arith, r.within);
        rest =
            drop-set-lt (2 * count) (set table (2 * i) a) (2 * i + 1) e (omega arith)
            ∙ drop-set-lt (2 * count) table (2 * i) a (omega arith) ∙ t.rest;
        same =
            t.same ∙ rw (next_line h, each_next (nearest s table i) (first_line s at) rest (between s a e) r.value)
            (rw (names_reversed s table i a e place)
            (continued_next (nearest s table i) (between s a e) (read_each sample_name (between s a e ∷ nearest s table i) rest)));
      }

  pub turn_end : count ≤ i → NamesTo s at₀ count table₀ table at
  unfolding lines_at numbers_from read_each
  turn_end h =
      let last : i ≡ count = omega (arith, t.few) in
      let left : count - i ≡ 0 = omega arith in
      record {
        value = t.same ∙ rw left (rw last (continued_end (nearest s table count) ∙ ap accepted (reverse-reverse (names_in s table count))));
        behind = rw last at t.behind;
        within = t.within;
        rest = t.rest;
      }

-- ---- the header

-- the lines from an offset on by their number in the whole text
lines_behind : (ls : List Line) (k first count : ℕ)
    → map (λ i. get_or ls i none) (numbers_from (k + first) count) ≡ map (λ i. get_or (drop k ls) i none) (numbers_from first count)
unfolding numbers_from
lines_behind ls k first zero = refl
lines_behind ls k first (suc count) =
    let m : suc (k + first) ≡ k + suc first = omega arith in
    ap₂ (λ (l : Line) (r : List Line). l ∷ r) (sym (get_or-drop k ls first none)) (rw m (lines_behind ls k (suc first) count))

module _ (s : List ℕ) (count at : ℕ) (c : CountTo s count at) where
  by_lines : samples_of (lines_of s) ≡ read_each sample_name [] (lines_at s at 0 count)
  unfolding samples_of lines_at
  by_lines =
      let allowed = both (le-leb 1 count c.not_none) (le-leb count max_samples c.few) in
      then _ _ c.value (required _ _ _ allowed
      (ap (read_each sample_name []) (lines_behind (lines_of s) 1 0 count ∙ rw c.behind.lines)))

  pub header_refused : (row : ℕ) → read_each sample_name [] (lines_at s at 0 count) ≡ refused row → samples_of (lines_of s) ≡ refused row
  header_refused row h = by_lines ∙ h

  pub header_read : (table₀ table : List ℕ) (next : ℕ) → 2 * max_samples ≤ length table₀ → NamesTo s at count table₀ table next
      → HeaderTo s table₀ table count next
  header_read table₀ table next room n =
      let more : 1 + count ≡ suc count = omega arith in
      record {
        room = room;
        value = by_lines ∙ n.value;
        not_none = c.not_none;
        few = c.few;
        behind = rw more at (behind_then 1 count c.behind n.behind);
        within = n.within;
        rest = n.rest;
      }
