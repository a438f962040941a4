-- The line at an offset: where it ends, its key and its value. And a value that is read further.
use Prim.Native.Nat.{◌+◌, ◌-◌, ◌<◌, ◌≤◌, suc, zero, ℕ}
use lib.ListN.{drop, get_or, length, length-take}
use lib.Seq.{drop-drop}
use mathlib.Core.Bool.{false, true}
use mathlib.Core.List.{List, [], ◌∷◌}
use mathlib.Core.Option.{Option, bind, none, some}
use mathlib.Core.Path.{◌∙◌, ◌≡◌, ap, refl}
use native.Mathlib.Decide.{dec_lt}
use native.Mathlib.Numerals.{add-one}
use native.Mathlib.Omega.{arith}
use Rattle.definitions.specs.Bytes.{comma, fields_of, line_feed, same_bytes, strip_prefix, text}
use Rattle.definitions.specs.Lines.{Line, lines_of, value_of}
use Rattle.definitions.specs.Lists.{all_of, is_there, only_if, split_where}
use Rattle.definitions.specs.Numbers.{no_leading_zero, number, or_missing}
use Rattle.laws.proofs.Bytes.{strip_prefix_back}
use Rattle.laws.proofs.Lines.{lines_at_lem, lines_end, lines_unended_at}
use Rattle.laws.proofs.Tests.{is_there_lem, not_none, not_there, some_same}
use Rattle.kv_text.proofs.Fields.{drop_take, field_ended, field_forward, field_has_none, field_within}
use Rattle.kv_text.specs.Fields.{between, field_length, first_numbers}
use Rattle.kv_text.specs.Lines.{LineReads, line_end, line_numbers, line_value, read_to, unread}

none_alone : (k : ℕ) → get_or {A = Line} (none ∷ []) k none ≡ none
none_alone zero = refl
none_alone (suc k) = refl

-- ---- the line at an offset, which ends at e

module _ (s : List ℕ) (at e : ℕ) (ends : e ≡ at + field_length 10 (drop at s)) where
  -- no LF is left
  pub unended : at < length s → length s ≤ e → lines_of (drop at s) ≡ none ∷ []
  unfolding line_feed
  unended l h =
      let whole : e ≤ length s = field_within 10 s at e ends (omega arith) in
      lines_unended_at s at (e - at) (omega arith) (omega arith) (field_has_none 10 s at e ends)

  -- so no line is there, at any index
  pub no_line : length s ≤ e → (k : ℕ) → get_or (lines_of (drop at s)) k none ≡ none
  no_line h k = go (dec_lt at (length s))
    where
      go : Dec (at < length s) → get_or (lines_of (drop at s)) k none ≡ none
      go (yes l) = rw (unended l h) (none_alone k)
      go (no l) = rw (lines_end s at (omega arith))

  pub the_lines : e < length s → lines_of (drop at s) ≡ some (between s at e) ∷ lines_of (drop (e + 1) s)
  unfolding line_feed
  the_lines h =
      let fits : at + (e - at) ≡ e = omega (arith, field_forward 10 s at e ends) in
      lines_at_lem s at (e - at) (omega arith) (field_has_none 10 s at e ends) (rw fits (field_ended 10 s at e ends h)) ∙ rw (fits, add-one e)

-- what follows a key in a part of a text is the part behind it
pub behind_key : (s key : List ℕ) (at e : ℕ) {w : List ℕ} → strip_prefix key (between s at e) ≡ some w → w ≡ between s (at + length key) e
behind_key s key at e p =
    let m : e - at - length key ≡ e - (at + length key) = omega arith in
    (strip_prefix_back key (between s at e) _ p).0 ∙ drop_take (length key) (e - at) (drop at s) ∙ rw (drop-drop, m)

module _ (s : List ℕ) (at : ℕ) (key : List ℕ) (e : ℕ) (ends : e ≡ at + field_length 10 (drop at s)) where
  pub line_absent : length s ≤ e → LineReads s at key some unread
  unfolding LineReads line_value value_of bind
  line_absent h = rw (no_line s at e ends h 0)

  pub line_other_key : e < length s → is_there (strip_prefix key (between s at e)) ≡ false → LineReads s at key some unread
  unfolding LineReads line_value value_of bind
  line_other_key h f = rw (the_lines s at e ends h) (rw (not_there (strip_prefix key (between s at e)) f))

  pub key_fits : is_there (strip_prefix key (between s at e)) ≡ true → at + length key ≤ e
  key_fits f =
      let w = is_there_lem (strip_prefix key (between s at e)) f in
      let p = strip_prefix_back key (between s at e) w.0 w.1 in
      omega (arith, p.1, length-take (e - at) (drop at s), field_forward 10 s at e ends)

  pub line_with_key : e < length s → is_there (strip_prefix key (between s at e)) ≡ true
      → LineReads s at key some (read_to (between s (at + length key) e) e)
  unfolding LineReads line_value value_of bind line_feed line_end
  line_with_key h f =
      let w = is_there_lem (strip_prefix key (between s at e)) f in
      record {
        value = rw (the_lines s at e ends h) (rw w.1 (ap {B = Option (List ℕ)} some (behind_key s key at e w.1)));
        ends = ends;
        forward = field_forward 10 s at e ends;
        within = h;
        feed = field_ended 10 s at e ends h;
        rest = rw (the_lines s at e ends h);
      }

-- ---- a value that is read further

module _ {A : Type 0} (s : List ℕ) (at : ℕ) (key : List ℕ) (read : List ℕ → Option A) where
  on_value : (o : Option (List ℕ)) {v : List ℕ} → bind o some ≡ some v → bind o read ≡ read v
  unfolding bind
  on_value none h = not_none h
  on_value (some w) h = ap read (some_same h)

  pub read_absent : LineReads s at key some unread → LineReads s at key read unread
  unfolding LineReads line_value bind
  read_absent h = go (value_of key (get_or (lines_of (drop at s)) 0 none)) h
    where
      go : (o : Option (List ℕ)) → bind o some ≡ none → bind o read ≡ none
      go none k = refl
      go (some w) k = not_none {a = w} (let q : none ≡ some w = cc in q)

  pub read_wrong : (v : List ℕ) (e : ℕ) → LineReads s at key some (read_to v e) → read v ≡ none → LineReads s at key read unread
  unfolding LineReads line_value
  read_wrong v e l r = on_value (value_of key (get_or (lines_of (drop at s)) 0 none)) l.value ∙ r

  pub read_right : (v : List ℕ) (e : ℕ) (a : A) → LineReads s at key some (read_to v e) → read v ≡ some a
      → LineReads s at key read (read_to a e)
  unfolding LineReads line_value
  read_right v e a l r = record {
    value = on_value (value_of key (get_or (lines_of (drop at s)) 0 none)) l.value ∙ r;
    ends = l.ends;
    forward = l.forward;
    within = l.within;
    feed = l.feed;
    rest = l.rest;
  }

pub line_within : {A : Type 0} (s : List ℕ) (at : ℕ) (key : List ℕ) (read : List ℕ → Option A) (a : A) (e : ℕ)
    → LineReads s at key read (read_to a e) → e < length s
unfolding LineReads
line_within s at key read a e l = l.within

pub line_ends : {A : Type 0} (s : List ℕ) (at : ℕ) (key : List ℕ) (read : List ℕ → Option A) (a : A) (e : ℕ)
    → LineReads s at key read (read_to a e) → e ≡ line_end s at
unfolding LineReads
line_ends s at key read a e l = l.ends

-- ---- the numbers of a list, as far as they go

module _ (s : List ℕ) (at : ℕ) (key : List ℕ) where
  pub numbers_absent : LineReads s at key some unread → line_numbers s at key ≡ []
  unfolding LineReads line_numbers first_numbers fields_of split_where number only_if all_of no_leading_zero
  numbers_absent h = rw h

  pub numbers_there : (v : List ℕ) (e : ℕ) → LineReads s at key some (read_to v e) → line_numbers s at key ≡ first_numbers (fields_of comma v)
  unfolding LineReads line_numbers
  numbers_there v e l = rw l.value

-- ---- what may be missing

module _ {A : Type 0} (read : List ℕ → Option A) (s : List ℕ) where
  pub missing_dot : same_bytes s (text ".") ≡ true → or_missing read s ≡ some none
  unfolding or_missing
  missing_dot h = rw h

  pub missing_some : (a : A) → same_bytes s (text ".") ≡ false → read s ≡ some a → or_missing read s ≡ some (some a)
  unfolding or_missing
  missing_some a h r = rw (h, r)

  pub missing_none : same_bytes s (text ".") ≡ false → read s ≡ none → or_missing read s ≡ none
  unfolding or_missing
  missing_none h r = rw (h, r)
