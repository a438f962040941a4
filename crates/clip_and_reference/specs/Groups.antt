-- What reading the group of three lines at an offset of clip.kv or reference.kv finds.
use Rattle.std.specs.Prelude.{◌+◌, ◌<◌, ◌≤◌, ℕ, drop, length, take, List, [], ◌∷◌, map, ◌≡◌}
use Rattle.definitions.specs.Alleles.{capital}
use Rattle.definitions.specs.Checked.{Checked, accepted, read_each, refused}
use Rattle.definitions.specs.ClipAndReference.{ReferenceSegment, Span, segment_of, span_of}
use Rattle.definitions.specs.Lines.{Line, key_of, lines_of}
use Rattle.definitions.specs.Lists.{groups_of}
use Rattle.kv_text.specs.Fields.{between}
use Rattle.kv_text.specs.Lines.{LineFound, line_end, line_start, read_to, unread}
use Rattle.kv_text.specs.declared.Part.{Part}
use Rattle.clip_and_reference.specs.declared.ClipGroup.{ClipGroup}
use Rattle.clip_and_reference.specs.declared.ReferenceGroup.{ReferenceGroup}
use Rattle.std.specs.Prelude as std

-- the three lines at an offset are refused as a group
abbrev pub GroupFaulty : {A : Type 0} → List ℕ → ℕ → (List Line → Checked A) → Type 0
GroupFaulty s at read = (n : ℕ) × (read (take 3 (lines_of (drop at s))) ≡ refused n)

-- they read as this, and the lines behind them are those from `next` on, where the fourth line begins
pub record GroupTo {A : Type 0} (s : List ℕ) (at : ℕ) (read : List Line → Checked A) (a : A) (next : ℕ) : Type 0 where
  pub value : read (take 3 (lines_of (drop at s))) ≡ accepted a
  pub rest : drop 3 (lines_of (drop at s)) ≡ lines_of (drop next s)
  pub ends : next ≡ line_start s at 3
  pub forward : at < next
  pub within : next ≤ length s

-- ---- the groups of a text

-- a group in front of those behind it; none if it is refused
unfoldable pub in_front : {A : Type 0} → Checked A → List A → List A
in_front (refused n) rest = []
in_front (accepted a) rest = a ∷ rest

-- groups of lines as they read, up to the first that is refused
unfoldable pub read_before : {A : Type 0} → (List Line → Checked A) → List (List Line) → List A
read_before read [] = []
read_before read (g ∷ gs) = in_front (read g) (read_before read gs)

-- the groups of a text from an offset on, up to the first faulty one
unfoldable pub groups_read : {A : Type 0} → (List Line → Checked A) → List ℕ → ℕ → List A
groups_read read s at = read_before read (groups_of 3 (lines_of (drop at s)))

abbrev pub spans_read : List ℕ → ℕ → List Span
spans_read = groups_read span_of

abbrev pub segments_read : List ℕ → ℕ → List ReferenceSegment
segments_read = groups_read segment_of

-- what the groups from an offset on read as
unfoldable pub groups_at : {A : Type 0} → (List Line → Checked A) → List ℕ → ℕ → Checked (List A)
groups_at read s at = read_each (λ _. read) [] (groups_of 3 (lines_of (drop at s)))

-- none of them is faulty, and they are these
pub record GroupsFrom {A : Type 0} (read : List Line → Checked A) (s : List ℕ) (at : ℕ) (groups : List A) : Type 0 where
  pub all : groups_at read s at ≡ accepted groups

abbrev pub SpansFrom : List ℕ → ℕ → List Span → Type 0
SpansFrom = GroupsFrom span_of

abbrev pub SegmentsFrom : List ℕ → ℕ → List ReferenceSegment → Type 0
SegmentsFrom = GroupsFrom segment_of

-- ---- where the bases of segments stand

-- where the bases of the reference group at an offset begin: in its third line, behind the key
unfoldable pub bases_start : List ℕ → ℕ → ℕ
bases_start s at = line_start s at 2 + length (key_of "bases")

-- a segment, and where its bases begin in the reference text
pub record PlacedSegment : Type 0 where
  pub segment : ReferenceSegment
  pub bases_at : ℕ

-- the segments of groups that stand one behind the other from an offset on, three lines each
unfoldable pub placed_from : List ℕ → ℕ → List ReferenceSegment → List PlacedSegment
placed_from s at [] = []
placed_from s at (g ∷ gs) = record { segment = g; bases_at = bases_start s at } ∷ placed_from s (line_start s at 3) gs

-- those of the groups from an offset on, up to the first faulty one
unfoldable pub segments_placed : List ℕ → ℕ → List PlacedSegment
segments_placed s at = placed_from s at (segments_read s at)

-- ---- one group

-- the part of a text that is the value in the line at an offset: from behind the key to the line's end
pub record ValuePart (s : List ℕ) (at : ℕ) (key : List ℕ) (a e : ℕ) : Type 0 where
  pub begins : a ≡ at + length key
  pub ends : e ≡ line_end s at
  pub forward : a ≤ e
  pub within : e ≤ length s

-- letters in either case, read as capitals
abbrev pub letters_found : List ℕ → std.Option Part → LineFound (List ℕ)
letters_found s (std.Some part) = read_to (map capital (between s part.at part.end)) part.end
letters_found s std.None = unread

-- the answers
unfoldable pub SpanRead : List ℕ → ℕ → std.Option ClipGroup → Type 0
SpanRead s at std.None = GroupFaulty s at span_of
SpanRead s at (std.Some group) =
    GroupTo s at span_of
    (record { contig = between s group.contig.at group.contig.end; start = group.loc.start.0; end = group.loc.end.0 })
    group.next
    × ValuePart s at (key_of "contig") group.contig.at group.contig.end

unfoldable pub SegmentRead : List ℕ → ℕ → std.Option ReferenceGroup → Type 0
SegmentRead s at std.None = GroupFaulty s at segment_of
SegmentRead s at (std.Some group) =
    GroupTo s at segment_of
    (record {
      contig = between s group.contig.at group.contig.end;
      first = group.first.0;
      bases = map capital (between s group.bases.at group.bases.end);
    })
    group.next
    × ValuePart s at (key_of "contig") group.contig.at group.contig.end
    × ValuePart s (line_start s at 2) (key_of "bases") group.bases.at group.bases.end
