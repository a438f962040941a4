-- A group of three lines at an offset, as span_at and segment_at read it: a contig, a number from 1 on, and a third value that fits the number.
use Prim.Native.Nat.{◌+◌, ◌-◌, ◌<◌, ◌≤◌, ℕ}
use Prim.Native.String.{String}
use borrow.Author.Tests.{le-leb, lt-leb}
use lib.Dec.{leb}
use lib.ListN.{drop, length, take}
use mathlib.Core.Bool.{◌&&◌, and-false, false}
use mathlib.Core.List.{List}
use mathlib.Core.Option.{Option}
use mathlib.Core.Path.{◌≡◌, refl}
use native.Mathlib.Omega.{arith}
use Rattle.definitions.specs.Alleles.{letters_of}
use Rattle.definitions.specs.Checked.{Checked, ◌>>=◌, ◌>>◌, accepted, require}
use Rattle.definitions.specs.ClipAndReference.{ReferenceSegment, Span}
use Rattle.definitions.specs.Lines.{Line, key_of, line_at, lines_of}
use Rattle.definitions.specs.Numbers.{max_number, name, number}
use Rattle.kv_text.proofs.Groups.{behind_next, behind_start, line_read, line_unread}
use Rattle.kv_text.proofs.Lines.{line_ends, line_within}
use Rattle.kv_text.specs.Lines.{Behind, LineReads, ValueStands, line_start, read_to, unread}
use Rattle.laws.proofs.Checked.{not_required, required, then, then_refused}
use Rattle.laws.proofs.Tests.{both}
use Rattle.clip_and_reference.specs.Groups.{GroupFaulty, GroupTo, ValuePart}

-- ---- the value of a line, as a part of the text

pub part_read : {A : Type 0} (s : List ℕ) (at : ℕ) (key : List ℕ) (read : List ℕ → Option A) (v : A) (a e : ℕ)
    → LineReads s at key read (read_to v e) → ValueStands at key a e → ValuePart s at key a e
part_read s at key read v a e l stands = record {
  begins = stands.begins;
  ends = line_ends s at key read v e l;
  forward = stands.forward;
  within = omega (arith, line_within s at key read v e l);
}

-- ---- the two kinds of groups

-- the keys of the number and of the third value, how that is read, two numbers that must be in order, and what the group stands for
pub record Kind (A B : Type 0) : Type 0 where
  pub second : String
  pub third : String
  pub value : List ℕ → Option B
  pub lower : ℕ → B → ℕ
  pub upper : ℕ → B → ℕ
  pub make : List ℕ → ℕ → B → A

-- spanOf and segment_of are the readers of these two
unfoldable pub three_lines : {A B : Type 0} → Kind A B → List Line → Checked A
three_lines k group = do
  contig ← line_at group 0 "contig" name
  n ← line_at group 1 k.second number
  b ← line_at group 2 k.third k.value
  require 4 (leb 1 n && leb (k.lower n b) (k.upper n b))
  accepted (k.make contig n b)

abbrev pub clip_group : Kind Span ℕ
clip_group = record {
  second = "start";
  third = "end";
  value = number;
  lower = λ start end. start;
  upper = λ start end. end;
  make = λ contig start end. record { contig = contig; start = start; end = end };
}

abbrev pub reference_group : Kind ReferenceSegment (List ℕ)
reference_group = record {
  second = "first";
  third = "bases";
  value = letters_of max_number;
  lower = λ first bases. first + length bases - 1;
  upper = λ first bases. max_number;
  make = λ contig first bases. record { contig = contig; first = first; bases = bases };
}

-- ---- reading a group

module _ {A B : Type 0} (k : Kind A B) (s : List ℕ) (at : ℕ) where
  abbrev group : List Line
  group = take 3 (lines_of (drop at s))

  pub first_unread : LineReads s at (key_of "contig") name unread → GroupFaulty s at (three_lines k)
  unfolding three_lines
  first_unread l = (1, then_refused _ _ (line_unread (behind_start s at) "contig" name 3 (omega arith) l))

  module _ (contig : List ℕ) (e₁ : ℕ) (l₁ : LineReads s at (key_of "contig") name (read_to contig e₁)) where
    one : Behind s at 1 (e₁ + 1)
    one = behind_next (behind_start s at) "contig" name contig e₁ l₁

    first_read : line_at group 0 "contig" name ≡ accepted contig
    first_read = line_read (behind_start s at) "contig" name 3 (omega arith) contig e₁ l₁

    pub second_unread : LineReads s (e₁ + 1) (key_of k.second) number unread → GroupFaulty s at (three_lines k)
    unfolding three_lines
    second_unread l = (1, then _ _ first_read (then_refused _ _ (line_unread one k.second number 3 (omega arith) l)))

    module _ (n e₂ : ℕ) (l₂ : LineReads s (e₁ + 1) (key_of k.second) number (read_to n e₂)) where
      two : Behind s at 2 (e₂ + 1)
      two = behind_next one k.second number n e₂ l₂

      -- the third line begins there
      pub third_start : e₂ + 1 ≡ line_start s at 2
      unfolding LineReads line_start
      third_start = rw (← l₁.ends, ← l₂.ends)

      second_read : line_at group 1 k.second number ≡ accepted n
      second_read = line_read one k.second number 3 (omega arith) n e₂ l₂

      pub third_unread : LineReads s (e₂ + 1) (key_of k.third) k.value unread → GroupFaulty s at (three_lines k)
      unfolding three_lines
      third_unread l =
          (1, then _ _ first_read (then _ _ second_read (then_refused _ _ (line_unread two k.third k.value 3 (omega arith) l))))

      module _ (b : B) (e₃ : ℕ) (l₃ : LineReads s (e₂ + 1) (key_of k.third) k.value (read_to b e₃)) where
        three : Behind s at 3 (e₃ + 1)
        three = behind_next two k.third k.value b e₃ l₃

        third_read : line_at group 2 k.third k.value ≡ accepted b
        third_read = line_read two k.third k.value 3 (omega arith) b e₃ l₃

        test_failed : leb 1 n && leb (k.lower n b) (k.upper n b) ≡ false → GroupFaulty s at (three_lines k)
        unfolding three_lines
        test_failed t = (4, then _ _ first_read (then _ _ second_read (then _ _ third_read (not_required _ _ _ t))))

        pub number_zero : n < 1 → GroupFaulty s at (three_lines k)
        number_zero h = test_failed (rw (lt-leb 1 n h))

        pub out_of_order : k.upper n b < k.lower n b → GroupFaulty s at (three_lines k)
        out_of_order h = test_failed (rw (lt-leb (k.lower n b) (k.upper n b) h, and-false))

        pub group_read : 1 ≤ n → k.lower n b ≤ k.upper n b → GroupTo s at (three_lines k) (k.make contig n b) (e₃ + 1)
        unfolding three_lines LineReads line_start
        group_read h o =
            let t = both (le-leb 1 n h) (le-leb (k.lower n b) (k.upper n b) o) in
            record {
              value = then _ _ first_read (then _ _ second_read (then _ _ third_read (required _ _ _ t refl)));
              rest = three.lines;
              ends = rw (← l₁.ends, ← l₂.ends, ← l₃.ends);
              forward = omega (arith, l₁.forward, l₂.forward, l₃.forward);
              within = omega (arith, l₃.within);
            }
