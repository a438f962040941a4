-- The lines of the header one by one: the first, and a `sample` line behind the names before it.
use Prim.Native.Nat.{◌+◌, ◌<◌, ◌≤◌, ℕ}
use Prim.Native.String.{String}
use borrow.Author.Tests.{lt-leb}
use lib.Dec.{leb}
use lib.ListN.{get_or}
use mathlib.Core.Bool.{◌&&◌, and-false, false, true}
use mathlib.Core.List.{List, [], ◌∷◌}
use mathlib.Core.Option.{Option, none}
use mathlib.Core.Path.{◌≡◌, refl}
use native.Mathlib.Omega.{arith}
use Rattle.definitions.specs.Bytes.{same_bytes}
use Rattle.definitions.specs.Checked.{accepted, or_refuse, refused}
use Rattle.definitions.specs.Cohort.{sample_name, samples_of}
use Rattle.definitions.specs.Limits.{max_samples}
use Rattle.definitions.specs.Lines.{Line, key_of, line_at, lines_of}
use Rattle.definitions.specs.Lists.{any_of}
use Rattle.definitions.specs.Numbers.{name, number}
use Rattle.kv_text.proofs.Groups.{behind_next, behind_start}
use Rattle.kv_text.proofs.Lines.{line_within}
use Rattle.kv_text.specs.Fields.{between}
use Rattle.kv_text.specs.Lines.{LineReads, line_value, read_to, unread}
use Rattle.laws.proofs.Checked.{not_required, required, then, then_refused}
use Rattle.sample_names.specs.Header.{CountTo, SampleTo, first_line}

-- the line at an offset, as the first of a group
module _ {A : Type 0} (s : List ℕ) (at : ℕ) (group : List Line) (here : get_or group 0 none ≡ first_line s at) (key : String) (read : List ℕ → Option A) where
  line_read : (a : A) (e : ℕ) → LineReads s at (key_of key) read (read_to a e) → line_at group 0 key read ≡ accepted a
  unfolding LineReads line_at line_value or_refuse
  line_read a e l = rw here (rw l.value)

  line_unread : LineReads s at (key_of key) read unread → line_at group 0 key read ≡ refused 1
  unfolding LineReads line_at line_value or_refuse
  line_unread l = rw here (rw l)

-- ---- a `sample` line

module _ (s : List ℕ) (at : ℕ) (before : List (List ℕ)) where
  pub sample_unread : LineReads s at (key_of "sample") name unread → sample_name before (first_line s at) ≡ refused 1
  unfolding sample_name
  sample_unread l = then_refused _ _ (line_unread s at (first_line s at ∷ []) refl "sample" name l)

  module _ (n : List ℕ) (e : ℕ) (l : LineReads s at (key_of "sample") name (read_to n e)) where
    here : line_at (first_line s at ∷ []) 0 "sample" name ≡ accepted n
    here = line_read s at (first_line s at ∷ []) refl "sample" name n e l

    pub sample_known : any_of (same_bytes n) before ≡ true → sample_name before (first_line s at) ≡ refused 3
    unfolding sample_name
    sample_known h = then _ _ here (not_required _ _ _ (rw h))

  pub sample_new : (a e : ℕ) → LineReads s at (key_of "sample") name (read_to (between s a e) e)
      → any_of (same_bytes (between s a e)) before ≡ false → SampleTo s at before a e
  unfolding sample_name
  sample_new a e l h = record {
    value = then _ _ (here (between s a e) e l) (required _ _ _ (rw h) refl);
    behind = behind_next (behind_start s at) "sample" name (between s a e) e l;
    within = line_within s at (key_of "sample") name (between s a e) e l;
  }

-- ---- the first line

module _ (s : List ℕ) where
  pub count_unread : LineReads s 0 (key_of "samples") number unread → samples_of (lines_of s) ≡ refused 1
  unfolding samples_of
  count_unread l = then_refused _ _ (line_unread s 0 (lines_of s) refl "samples" number l)

  module _ (count e : ℕ) (l : LineReads s 0 (key_of "samples") number (read_to count e)) where
    first : line_at (lines_of s) 0 "samples" number ≡ accepted count
    first = line_read s 0 (lines_of s) refl "samples" number count e l

    not_allowed : leb 1 count && leb count max_samples ≡ false → samples_of (lines_of s) ≡ refused 2
    unfolding samples_of
    not_allowed t = then _ _ first (not_required _ _ _ t)

    pub count_zero : count < 1 → samples_of (lines_of s) ≡ refused 2
    count_zero h = not_allowed (rw (lt-leb 1 count h))

    pub count_many : max_samples < count → samples_of (lines_of s) ≡ refused 2
    count_many h = not_allowed (rw (lt-leb count max_samples h, and-false))

    pub count_read : 1 ≤ count → count ≤ max_samples → CountTo s count (e + 1)
    count_read h k = record {
      value = first;
      not_none = omega arith;
      few = k;
      behind = behind_next (behind_start s 0) "samples" number count e l;
      within = let w = line_within s 0 (key_of "samples") number count e l in omega arith;
    }
