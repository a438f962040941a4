-- A step of a cursor: what the groups at it are, and where it stands afterwards.
use Prim.Native.Nat.{◌+◌, ◌-◌, ◌<◌, ◌≤◌, ℕ}
use borrow.Author.Tests.{le-ltb, lt-ltb}
use lib.ListN.{drop, length, take}
use lib.Seq.{take-nil}
use mathlib.Core.List.{List, [], ◌∷◌, append-nil}
use mathlib.Core.Option.{get_or}
use mathlib.Core.Path.{◌≡◌, refl, sym}
use native.Mathlib.Omega.{arith}
use Rattle.std.specs.Prelude as std
use Rattle.bio_ids.specs.declared.GenomePosition.{GenomePosition}
use Rattle.cohort.proofs.FirstGroups.{some_lines}
use Rattle.definitions.specs.Answers.{scratch_after}
use Rattle.definitions.specs.Lines.{lines_of}
use Rattle.definitions.specs.ListReader.{record_lines, record_read, sample_lines, with_missing}
use Rattle.definitions.specs.Lists.{groups_from, groups_of}
use Rattle.definitions.specs.Records.{record_end}
use Rattle.laws.proofs.Checked.{not_required}
use Rattle.laws.proofs.Groups.{groups_cons}
use Rattle.laws.proofs.Lines.{lines_end}
use Rattle.list_reader.specs.RecordGroups.{PreviousOf, RecordRefused, RecordTo, end_option, group_lines, record_group}
use Rattle.list_reader.specs.declared.RecordPlace.{RecordPlace}
use Rattle.list_walk.proofs.MissingGroups.{missing_next}
use Rattle.list_walk.specs.Walk.{LastStep, RecordStep, RefusedStep, groups_at, record_at}
use Rattle.list_walk.specs.declared.ListCursor.{ListCursor}
use Rattle.list_walk.specs.declared.ListHeader.{ListHeader}

-- groups of lines, of which none is missing: the first, and the others
some_groups : {L : Type 0} (size : ℕ) (l : List L) → 0 < size → 0 < length l
    → with_missing 0 (groups_of size l) ≡ take size l ∷ groups_of size (drop size l)
unfolding with_missing
some_groups size l h k = rw (le-ltb (length (groups_of size l)) 0 (omega arith), append-nil (groups_of size l)) (groups_cons size l h k)

-- one is missing, or there are lines
missing_or_some : {L : Type 0} (size k : ℕ) (l : List L) → 0 < size → 0 < k
    → (later : List (List L)) × (with_missing k (groups_of size l) ≡ take size l ∷ later)
unfolding with_missing groups_of groups_from
missing_or_some size k [] h some = ([], rw (lt-ltb 0 k some, take-nil))
missing_or_some size k (x ∷ l) h some = (
  with_missing (k - 1) (groups_of size (drop size (x ∷ l))),
  rw (groups_cons size (x ∷ l) h (omega arith)) (missing_next k (take size (x ∷ l)) (groups_of size (drop size (x ∷ l))) some),
)

module _ (s : List ℕ) (h : ListHeader) (c : ListCursor) where
  some_size : 0 < group_lines h.samples
  unfolding record_lines sample_lines
  some_size = omega arith

  -- ---- all groups that there must be were read

  module _ (all : h.records ≤ c.read) where
    none_missing : h.records - c.read ≡ 0
    none_missing = omega arith

    pub step_past : {rows₀ rows : List ℕ} → c.next < length s → rows ≡ scratch_after rows₀ → RefusedStep s h c rows₀ rows 1
    unfolding groups_at record_read
    step_past more cleared = record {
      group = record_group s c.next h.samples;
      later = groups_of (group_lines h.samples) (drop (group_lines h.samples) (lines_of (drop c.next s)));
      groups = rw none_missing (some_groups (group_lines h.samples) (lines_of (drop c.next s)) some_size (some_lines s c.next more));
      value = λ before at. not_required 1 _ _ (le-ltb (length before) h.records (omega (arith, at.read)));
      cleared = cleared;
    }

    pub step_end : {rows₀ rows : List ℕ} → length s ≤ c.next → rows ≡ rows₀ → LastStep s h c rows₀ rows
    unfolding groups_at with_missing groups_of groups_from
    step_end past same = record { groups = rw (none_missing, lines_end s c.next past); same = same }

  -- ---- a group must be there

  module _ (more : c.read < h.records) {rows₀ rows : List ℕ} where
    pub step_refused : (row : ℕ) → RecordRefused s c.next h.samples c.previous rows₀ rows row → RefusedStep s h c rows₀ rows row
    unfolding groups_at
    step_refused row r =
        let (later, groups) = missing_or_some (group_lines h.samples) (h.records - c.read) (lines_of (drop c.next s)) some_size (omega arith) in
        record {
          group = record_group s c.next h.samples;
          later = later;
          groups = groups;
          value = λ before at. r.value h.records before (omega (arith, at.read)) at.previous;
          cleared = r.cleared;
        }

    pub step_record : {p : RecordPlace} (last : GenomePosition) → RecordTo s c.next h.samples c.previous rows₀ rows p
        → last.0 ≡ get_or (end_option p.end) p.pos.0
        → RecordStep s h c rows₀ rows p (record { next = p.next; read = c.read + 1; previous = std.Some (record { contig = p.contig; end = last }) })
    unfolding groups_at PreviousOf record_end
    step_record {p} last to last_is = record {
      to = to;
      groups =
          let lines = some_lines s c.next (omega (arith, to.forward, to.within)) in
          let fewer : h.records - (c.read + 1) ≡ h.records - c.read - 1 = omega arith in
          rw (groups_cons (group_lines h.samples) (lines_of (drop c.next s)) some_size lines, fewer, ← to.behind.lines)
          (missing_next (h.records - c.read) _ _ (omega arith));
      value = λ before at. to.value h.records before (omega (arith, at.read)) at.previous;
      behind = λ before at. record {
        read = omega (arith, at.read);
        previous = record { last = record_at to; earlier = before; nearest = refl; on = refl; to = sym last_is };
      };
      forward = to.forward;
      within = to.within;
    }
