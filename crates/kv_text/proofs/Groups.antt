-- Groups of lines at an offset: their lines one after the other, and the groups one after the other.
use Prim.Native.Nat.{◌+◌, ◌<◌, ◌≤◌, ℕ}
use Prim.Native.String.{String}
use lib.ListN.{drop, get_or, length, take}
use lib.Seq.{drop-drop, get_or-drop, get_or-take}
use mathlib.Core.List.{List, [], ◌∷◌, reverse, reverse_aux}
use mathlib.Core.Option.{Option, bind, none}
use mathlib.Core.Path.{◌∙◌, ◌≡◌, ap, refl}
use native.Mathlib.Decide.{dec_lt}
use native.Mathlib.Nat.{add-zero}
use native.Mathlib.Omega.{arith}
use Rattle.definitions.specs.Checked.{Checked, ◌>>=◌, accepted, or_refuse, read_each, refused}
use Rattle.definitions.specs.Lines.{Line, key_of, line_at, lines_of, value_of}
use Rattle.definitions.specs.Lists.{groups_from, groups_of}
use Rattle.laws.proofs.Groups.{groups_cons}
use Rattle.laws.proofs.Lines.{lines_end}
use Rattle.kv_text.proofs.Lines.{the_lines, unended}
use Rattle.kv_text.specs.Fields.{field_length}
use Rattle.kv_text.specs.Lines.{Behind, LineReads, line_value, read_to, unread}

-- ---- the lines of a group

pub behind_start : (s : List ℕ) (at : ℕ) → Behind s at 0 at
behind_start s at = record { lines = refl; forward = omega arith }

module _ {A : Type 0} {s : List ℕ} {at₀ k at : ℕ} (b : Behind s at₀ k at) (key : String) (read : List ℕ → Option A) where
  -- the next line is read
  pub behind_next : (a : A) (e : ℕ) → LineReads s at (key_of key) read (read_to a e) → Behind s at₀ (k + 1) (e + 1)
  unfolding LineReads
  behind_next a e l = record {
    lines = rw (← drop-drop 1 k (lines_of (drop at₀ s)), b.lines) l.rest;
    forward = omega (arith, b.forward, l.forward);
  }

  -- it is the line at that index of the group
  in_group : (size : ℕ) → k < size
      → line_at (take size (lines_of (drop at₀ s))) k key read ≡ or_refuse 1 (line_value s at (key_of key) read)
  unfolding line_at line_value
  in_group size h =
      let here : get_or (lines_of (drop at₀ s)) k none ≡ get_or (lines_of (drop at s)) 0 none =
      rw (← b.lines, get_or-drop k (lines_of (drop at₀ s)) 0 none, add-zero k) in
      ap (λ (l : Line). or_refuse 1 (bind (value_of (key_of key) l) read)) (get_or-take size (lines_of (drop at₀ s)) k none h ∙ here)

  pub line_read : (size : ℕ) → k < size → (a : A) (e : ℕ) → LineReads s at (key_of key) read (read_to a e)
      → line_at (take size (lines_of (drop at₀ s))) k key read ≡ accepted a
  unfolding LineReads or_refuse
  line_read size h a e l = in_group size h ∙ rw l.value

  pub line_unread : (size : ℕ) → k < size → LineReads s at (key_of key) read unread
      → line_at (take size (lines_of (drop at₀ s))) k key read ≡ refused 1
  unfolding LineReads or_refuse
  line_unread size h l = in_group size h ∙ rw l

-- ---- the groups of a text

-- a text that goes on has a line
some_line : (s : List ℕ) (at : ℕ) → at < length s → 0 < length (lines_of (drop at s))
some_line s at h = go (dec_lt e (length s))
  where
    e : ℕ
    e = at + field_length 10 (drop at s)

    go : Dec (e < length s) → 0 < length (lines_of (drop at s))
    go (yes l) = rw (the_lines s at e refl l) (omega arith)
    go (no l) = rw (unended s at e refl h (omega arith)) (omega arith)

module _ {A : Type 0} (size : ℕ) (some_size : 0 < size) (read : List A → List Line → Checked A) (before : List A) (s : List ℕ) (at : ℕ) where
  -- what the groups from the offset on read as, after those before
  abbrev pub FromHere : Checked (List A)
  FromHere = read_each read before (groups_of size (lines_of (drop at s)))

  first_group : at < length s
      → groups_of size (lines_of (drop at s)) ≡ take size (lines_of (drop at s)) ∷ groups_of size (drop size (lines_of (drop at s)))
  first_group h = groups_cons size (lines_of (drop at s)) some_size (some_line s at h)

  pub group_refused : (n : ℕ) → at < length s → read before (take size (lines_of (drop at s))) ≡ refused n → FromHere ≡ refused n
  unfolding read_each ◌>>=◌
  group_refused n h r = rw (first_group h, r)

  pub group_accepted : (a : A) (next : ℕ) → at < length s → Behind s at size next
      → read before (take size (lines_of (drop at s))) ≡ accepted a
      → FromHere ≡ (read_each read (a ∷ before) (groups_of size (lines_of (drop next s))) >>= λ rest. accepted (a ∷ rest))
  unfolding read_each ◌>>=◌
  group_accepted a next h b r = rw (first_group h, r, b.lines)

  pub groups_ended : length s ≤ at → FromHere ≡ accepted []
  unfolding read_each groups_of groups_from
  groups_ended h = rw (lines_end s at h)

-- ---- the answer so far

-- what is read behind those before, which come in front in their order
unfoldable pub continued : {A : Type 0} → List A → Checked (List A) → Checked (List A)
continued before c = c >>= λ later. accepted (reverse_aux before later)

module _ {A : Type 0} where
  pub continued_start : (c : Checked (List A)) → c ≡ continued [] c
  unfolding continued ◌>>=◌
  continued_start (refused n) = refl
  continued_start (accepted l) = refl

  pub continued_refused : (before : List A) (n : ℕ) → continued before (refused n) ≡ refused n
  unfolding continued ◌>>=◌
  continued_refused before n = refl

  pub continued_next : (before : List A) (a : A) (c : Checked (List A)) → continued before (c >>= λ rest. accepted (a ∷ rest)) ≡ continued (a ∷ before) c
  unfolding continued ◌>>=◌
  continued_next before a (refused n) = refl
  continued_next before a (accepted l) = refl

  pub continued_end : (before : List A) → continued before (accepted []) ≡ accepted (reverse before)
  unfolding continued ◌>>=◌
  continued_end before = refl
