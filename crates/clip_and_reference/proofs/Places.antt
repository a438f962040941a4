-- Where the bases of reference groups stand: group by group as the text is read, and that they do stand there.
use Prim.Native.Nat.{◌*◌, ◌<◌, ◌≤◌, suc, zero, ℕ}
use lib.ListN.{drop, get_or, length, length-map, take}
use lib.Seq.{get_or-take}
use mathlib.Core.List.{List, [], ◌∷◌, map}
use mathlib.Core.Option.{none}
use mathlib.Core.Path.{◌∙◌, ◌≡◌, ap, refl, sym}
use native.Mathlib.Omega.{arith}
use Rattle.definitions.specs.Alleles.{capital, letters_of}
use Rattle.definitions.specs.Checked.{Checked, accepted, refused}
use Rattle.definitions.specs.ClipAndReference.{ReferenceSegment, segment_of}
use Rattle.definitions.specs.Lines.{Line, key_of, line_at, lines_of, value_of}
use Rattle.definitions.specs.Lists.{groups_from, groups_of}
use Rattle.definitions.specs.Numbers.{max_number}
use Rattle.kv_text.proofs.Lines.{behind_key}
use Rattle.kv_text.proofs.Places.{line_stands}
use Rattle.kv_text.specs.Fields.{between}
use Rattle.kv_text.specs.Lines.{line_end, line_start}
use Rattle.laws.proofs.Capitals.{letters_raised_back}
use Rattle.laws.proofs.Checked.{accepted_same, after_required, after_then, or_refused_back}
use Rattle.laws.proofs.Every.{Every, also, nothing}
use Rattle.laws.proofs.Groups.{groups_cons}
use Rattle.laws.proofs.Tests.{after_bind}
use Rattle.clip_and_reference.proofs.Groups.{read_end, read_faulty, read_group}
use Rattle.clip_and_reference.specs.Groups.{GroupFaulty, GroupTo, PlacedSegment, ValuePart, bases_start, groups_read, in_front, placed_from, read_before, segments_placed, segments_read}

-- ---- group by group

module _ (s : List ℕ) where
  pub placed_group : {at : ℕ} {g : ReferenceSegment} {next a e : ℕ} → GroupTo s at segment_of g next
      → ValuePart s (line_start s at 2) (key_of "bases") a e
      → segments_placed s at ≡ record { segment = g; bases_at = a } ∷ segments_placed s next
  unfolding segments_placed placed_from bases_start
  placed_group to part = rw (read_group segment_of s to, ← to.ends, part.begins)

  pub placed_faulty : (at : ℕ) → GroupFaulty s at segment_of → segments_placed s at ≡ []
  unfolding segments_placed placed_from
  placed_faulty at f = rw (read_faulty segment_of s at f)

  pub placed_end : (at : ℕ) → length s ≤ at → segments_placed s at ≡ []
  unfolding segments_placed placed_from
  placed_end at h = rw (read_end segment_of s at h)

  -- they are the segments that are read
  all_placed : (at : ℕ) (gs : List ReferenceSegment) → map (λ p. p.segment) (placed_from s at gs) ≡ gs
  unfolding placed_from
  all_placed at [] = refl
  all_placed at (g ∷ gs) = ap (λ (l : List ReferenceSegment). g ∷ l) (all_placed (line_start s at 3) gs)

  pub placed_segments : (at : ℕ) → map (λ p. p.segment) (segments_placed s at) ≡ segments_read s at
  unfolding segments_placed
  placed_segments at = all_placed at (segments_read s at)

  pub placed_count : (at : ℕ) → length (segments_placed s at) ≡ length (segments_read s at)
  placed_count at = sym (length-map (segments_placed s at) (λ p. p.segment)) ∙ ap length (placed_segments at)

  -- the bases of the group with this number, from 0, begin in the third line of its three
  bases_from : (gs : List ReferenceSegment) (at k : ℕ) (d : PlacedSegment) → k < length gs
      → (get_or (placed_from s at gs) k d).bases_at ≡ bases_start s (line_start s at (3 * k))
  unfolding placed_from line_start
  bases_from [] at k d h = absurd (omega arith)
  bases_from (g ∷ gs) at zero d h = refl
  bases_from (g ∷ gs) at (suc k) d h =
      let three : 3 * suc k ≡ suc (suc (suc (3 * k))) = omega arith in
      rw three (bases_from gs (line_start s at 3) k d (omega arith))

  pub bases_at_lem : (k : ℕ) (d : PlacedSegment) → k < length (segments_read s 0)
      → (get_or (segments_placed s 0) k d).bases_at ≡ bases_start s (line_start s 0 (3 * k))
  unfolding segments_placed
  bases_at_lem k d h = bases_from (segments_read s 0) 0 k d h

-- ---- the bases stand there

-- the bases of a placed segment are the capitals of a part of the text from that place on
pub record BasesStand (s : List ℕ) (p : PlacedSegment) : Type 0 where
  pub bases_end : ℕ
  pub bases : p.segment.bases ≡ map capital (between s p.bases_at bases_end)

module _ (s : List ℕ) (at : ℕ) (g : ReferenceSegment) where
  -- a group that reads has its bases in the third line, and the lines behind it begin at the fourth
  record GroupStands : Type 0 where
    bases : g.bases ≡ map capital (between s (bases_start s at) (line_end s (line_start s at 2)))
    rest : drop 3 (lines_of (drop at s)) ≡ lines_of (drop (line_start s at 3) s)

  third_line : {l : List ℕ} → line_at (take 3 (lines_of (drop at s))) 2 "bases" (letters_of max_number) ≡ accepted l → l ≡ g.bases → GroupStands
  unfolding line_at value_of bases_start
  third_line e same =
      after_bind _ _ (or_refused_back 1 _ e) λ value v w. after_bind _ _ v λ line there key.
      let stands = line_stands s 2 at (sym (get_or-take 3 (lines_of (drop at s)) 2 none (omega arith)) ∙ there) in
      let cut = behind_key s (key_of "bases") (line_start s at 2) (line_end s (line_start s at 2)) (rw stands.is at key) in
      record { bases = sym same ∙ sym (letters_raised_back _ _ w) ∙ ap (map capital) cut; rest = stands.rest }

  group_stands : segment_of (take 3 (lines_of (drop at s))) ≡ accepted g → GroupStands
  unfolding segment_of
  group_stands e =
      after_then _ _ e λ contig _ e. after_then _ _ e λ first _ e. after_then _ _ e λ bases third e. after_required _ _ _ e λ _ e.
      third_line third (ap (λ (x : ReferenceSegment). x.bases) (accepted_same e))

-- the first of the groups that are read, and the others
in_front_back : {A : Type 0} (c : Checked A) (rest : List A) {a : A} {as' : List A} → in_front c rest ≡ a ∷ as' → (c ≡ accepted a) × (rest ≡ as')
unfolding in_front
in_front_back (refused n) rest e = let z : ◌≡◌ {A = ℕ} 0 1 = cc in absurd (omega arith)
in_front_back (accepted b) rest e = (cc, cc)

first_back : {A : Type 0} (read : List Line → Checked A) (lines : List Line) {a : A} {as' : List A}
    → read_before read (groups_of 3 lines) ≡ a ∷ as' → (read (take 3 lines) ≡ accepted a) × (read_before read (groups_of 3 (drop 3 lines)) ≡ as')
unfolding read_before groups_of groups_from
first_back read [] e = let z : ◌≡◌ {A = ℕ} 0 1 = cc in absurd (omega arith)
first_back read (l ∷ lines) e =
    in_front_back _ _ (sym (ap (read_before read) (groups_cons 3 (l ∷ lines) (omega arith) (omega arith))) ∙ e)

module _ (s : List ℕ) where
  stand_from : (gs : List ReferenceSegment) (at : ℕ) → segments_read s at ≡ gs → Every (BasesStand s) (placed_from s at gs)
  unfolding placed_from groups_read
  stand_from [] at e = nothing
  stand_from (g ∷ gs) at e =
      let (here, later) = first_back segment_of (lines_of (drop at s)) e in
      let stands = group_stands s at g here in
      also (record { bases_end = line_end s (line_start s at 2); bases = stands.bases })
      (stand_from gs (line_start s at 3) (rw stands.rest at later))

  pub bases_stand : (at : ℕ) → Every (BasesStand s) (segments_placed s at)
  unfolding segments_placed
  bases_stand at = stand_from (segments_read s at) at refl
