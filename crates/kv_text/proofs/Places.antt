-- Where the lines of a text stand, and how long a part of it is.
use Prim.Native.Nat.{◌+◌, ◌-◌, ◌<◌, ◌≤◌, suc, zero, ℕ}
use lib.ListN.{drop, get_or, length, length-drop, length-take}
use mathlib.Core.List.{List}
use mathlib.Core.Option.{none, some}
use mathlib.Core.Path.{◌∙◌, ◌≡◌, refl, sym}
use native.Mathlib.Decide.{dec_lt}
use native.Mathlib.Omega.{arith}
use Rattle.definitions.specs.Bytes.{line_feed}
use Rattle.definitions.specs.Lines.{lines_of}
use Rattle.laws.proofs.Tests.{not_none, some_same}
use Rattle.kv_text.proofs.Lines.{no_line, the_lines}
use Rattle.kv_text.specs.Fields.{between}
use Rattle.kv_text.specs.Lines.{line_end, line_start}

-- ---- the line with an index, from an offset on

module _ (s : List ℕ) where
  -- the line begins where so many lines end, it ends with its LF, and the others begin behind that
  pub record LineStands (at k : ℕ) (l : List ℕ) : Type 0 where
    pub is : l ≡ between s (line_start s at k) (line_end s (line_start s at k))
    pub ended : line_end s (line_start s at k) < length s
    pub rest : drop (suc k) (lines_of (drop at s)) ≡ lines_of (drop (line_start s at (suc k)) s)

  pub line_stands : (k at : ℕ) {l : List ℕ} → get_or (lines_of (drop at s)) k none ≡ some l → LineStands at k l
  unfolding line_end line_start line_feed
  line_stands zero at {l} e = go (dec_lt (line_end s at) (length s))
    where
      go : Dec (line_end s at < length s) → LineStands at zero l
      go (yes h) = let cut = the_lines s at (line_end s at) refl h in record { is = sym (some_same (rw cut at e)); ended = h; rest = rw cut }
      go (no h) = not_none (sym (no_line s at (line_end s at) refl (omega arith) 0) ∙ e)
  line_stands (suc k) at {l} e = go (dec_lt (line_end s at) (length s)) (line_stands k (line_end s at + 1))
    where
      go : Dec (line_end s at < length s)
          → (get_or (lines_of (drop (line_end s at + 1) s)) k none ≡ some l → LineStands (line_end s at + 1) k l) → LineStands at (suc k) l
      go (yes h) later =
          let cut = the_lines s at (line_end s at) refl h in
          let w = later (rw cut at e) in
          record { is = w.is; ended = w.ended; rest = rw cut w.rest }
      go (no h) later = not_none (sym (no_line s at (line_end s at) refl (omega arith) (suc k)) ∙ e)

-- how long a part of a text is
pub part_long : (s : List ℕ) (a e : ℕ) → a ≤ e → e ≤ length s → a + length (between s a e) ≡ e
part_long s a e h l = omega (arith, length-take (e - a) (drop a s), length-drop a s)
