-- Three lines: a contig, a number and letters, the last of which stands at a position that is a number.
use Prim.Native.Nat.{◌+◌, ◌-◌, ◌<◌, ◌≤◌, ℕ}
use lib.ListN.{length, length-map}
use mathlib.Core.List.{List, map}
use mathlib.Core.Path.{◌≡◌}
use native.Mathlib.Omega.{arith}
use Rattle.clip_and_reference.proofs.ThreeLines.{first_unread, group_read, number_zero, out_of_order, part_read, reference_group, second_unread, third_start, third_unread, three_lines}
use Rattle.clip_and_reference.specs.Groups.{SegmentRead}
use Rattle.definitions.specs.Alleles.{capital, letters_of}
use Rattle.definitions.specs.Bytes.{text}
use Rattle.definitions.specs.ClipAndReference.{segment_of}
use Rattle.definitions.specs.Lines.{key_of}
use Rattle.definitions.specs.Numbers.{max_number, name, number}
use Rattle.kv_text.proofs.Lines.{line_within}
use Rattle.kv_text.proofs.Places.{part_long}
use Rattle.kv_text.specs.Fields.{between}
use Rattle.kv_text.specs.Lines.{LineReads, line_value, read_to}
use Rattle.laws.proofs.SoundValues.{letters_sound}
use Rattle.laws.proofs.Tests.{after_bind}
use Rattle.clip_and_reference.proofs.segment_at.Goals as goal

module _ (s : List ℕ) (at : ℕ) (key : List ℕ) (a e : ℕ) (l : LineReads s at key (letters_of max_number) (read_to (map capital (between s a e)) e)) (h : a ≤ e) where
  long : a + length (map capital (between s a e)) ≡ e
  long =
      rw (length-map (between s a e) capital)
      (part_long s a e h (omega (arith, line_within s at key (letters_of max_number) _ e l)))

  -- the letters are few enough that the sum fits
  few : e - a ≤ 2147483647
  unfolding LineReads line_value max_number
  few = after_bind _ _ l.value λ w p q. omega (arith, (letters_sound 2147483647 w (map capital (between s a e)) q).not_too_long, long)

  -- where the last letter stands, by the code's sum
  past_the_end : (first : ℕ) → 2147483648 < first + (e - a) → max_number < first + length (map capital (between s a e)) - 1
  unfolding max_number
  past_the_end first k = omega (arith, long)

  not-past : (first : ℕ) → first + (e - a) ≤ 2147483648 → first + length (map capital (between s a e)) - 1 ≤ max_number
  unfolding max_number
  not-past first k = omega (arith, long)

pub returns-in_err-contig : goal.returns-in_err-contig
unfolding key_of text SegmentRead segment_of three_lines
returns-in_err-contig c = rw c.from_residual.ensures (first_unread reference_group _ _ c.in_err-contig.ensures.0)

pub overflow_add-contig : goal.overflow_add-contig
overflow_add-contig c = omega (arith, line_within _ _ _ name _ _ c.in_ok-contig.ensures.0)

pub returns-in_err-number : goal.returns-in_err-number
unfolding key_of text SegmentRead segment_of three_lines
returns-in_err-number c =
    rw c.from_residual-in_err-number.ensures (second_unread reference_group _ _ _ _ c.in_ok-contig.ensures.0 c.in_err-number.ensures)

pub overflow_add-first_end : goal.overflow_add-first_end
overflow_add-first_end c = omega (arith, line_within _ _ _ number _ _ c.in_ok-number.ensures)

pub returns-in_err-bases : goal.returns-in_err-bases
unfolding key_of text SegmentRead segment_of three_lines
returns-in_err-bases c =
    rw c.from_residual-in_err-bases.ensures
    (third_unread reference_group _ _ _ _ c.in_ok-contig.ensures.0 _ _ c.in_ok-number.ensures c.in_err-bases.ensures.0)

pub returns-then-number-lt1 : goal.returns-then-number-lt1
unfolding key_of text SegmentRead segment_of three_lines
returns-then-number-lt1 c =
    number_zero reference_group _ _ _ _ c.in_ok-contig.ensures.0 _ _ c.in_ok-number.ensures _ _ c.in_ok-bases.ensures.0
    (omega (arith, c.if-number-lt1.true))

pub overflow_add-number : goal.overflow_add-number
overflow_add-number c = let n = c.in_ok-bases.ensures in omega (arith, few _ _ _ _ _ n.0 n.1.forward)

pub returns-then-number-bases-gt2147483648 : goal.returns-then-number-bases-gt2147483648
unfolding key_of text SegmentRead segment_of three_lines
returns-then-number-bases-gt2147483648 c =
    let n = c.in_ok-bases.ensures in
    out_of_order reference_group _ _ _ _ c.in_ok-contig.ensures.0 _ _ c.in_ok-number.ensures _ _ n.0
    (past_the_end _ _ _ _ _ n.0 n.1.forward _ (omega (arith, c.if-number-bases-gt2147483648.true)))

pub overflow_add-next : goal.overflow_add-next
overflow_add-next c = omega (arith, line_within _ _ _ (letters_of max_number) _ _ c.in_ok-bases.ensures.0)

pub returns : goal.returns
unfolding key_of text SegmentRead segment_of three_lines
returns c =
    let l = c.in_ok-contig.ensures in
    let m = c.in_ok-number.ensures in
    let n = c.in_ok-bases.ensures in
    let read =
    group_read reference_group _ _ _ _ l.0 _ _ m _ _ n.0 (omega (arith, c.if-number-lt1.false))
    (not-past _ _ _ _ _ n.0 n.1.forward _ (omega (arith, c.if-number-bases-gt2147483648.false))) in (
      rw c.new_1based-first.ensures read,
      part_read _ _ _ name _ _ _ l.0 l.1,
      rw (← third_start reference_group _ _ _ _ l.0 _ _ m) (part_read _ _ _ (letters_of max_number) _ _ _ n.0 n.1),
    )
