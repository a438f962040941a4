-- Whether the record that was read last reaches a place and holds it, by what stands for it.
use Prim.Native.Nat.{◌-◌, ◌<◌, ◌≤◌, ℕ}
use borrow.Author.Tests.{le-leb, lt-leb}
use lib.Dec.{leb}
use lib.ListN.{length}
use mathlib.Core.Bool.{Bool, ◌&&◌, and-false, false, true}
use mathlib.Core.List.{List, [], ◌∷◌}
use mathlib.Core.Option.{Option, none, some}
use mathlib.Core.Path.{◌∙◌, ◌≡◌, ap, ap₂, sym}
use native.Mathlib.Omega.{arith}
use Rattle.definitions.specs.Bytes.{same_bytes}
use Rattle.definitions.specs.Lists.{only_if}
use Rattle.definitions.specs.LookUp.{Place, holds_place, not_after, reaches}
use Rattle.definitions.specs.Records.{Record}
use Rattle.list_reader.specs.RecordGroups.{LastRecord, PreviousOf}
use Rattle.list_reader.specs.declared.PreviousRecord.{PreviousRecord}
use Rattle.site_groups.specs.SiteGroups.{bytes_of}
use Rattle.std.specs.Prelude as std
use Rattle.position_lookup.specs.Found.{FirstOf, Stands, reached_last}
use Rattle.position_lookup.specs.Search.{held_by, reached_by}
use Rattle.position_lookup.specs.declared.Search.{Search}

pub reached_last_lem : (s : List ℕ) (before : List Record) (last : std.Option PreviousRecord) (p : Place) → PreviousOf s before last
    → reached_by p before ≡ reached_last s last p
unfolding PreviousOf reached_by reaches
reached_last_lem s before std.None p e = rw e
reached_last_lem s before (std.Some last) p l =
    rw l.nearest (ap₂ (λ (c : List ℕ) (n : ℕ). not_after p (record { contig = c; position = n })) l.on l.to)

module _ {s : List ℕ} {w : Search} (stands : Stands s w) where
  -- the number for a place, by the records that were read
  abbrev number_of : Place → Option ℕ
  number_of p = held_by p stands.before

  pub none_read : (p : Place) → w.cursor.previous ≡ std.None → none ≡ number_of p
  unfolding PreviousOf held_by
  none_read p e = rw (rw e at stands.at.cursor.previous)

  module _ (last : PreviousRecord) (e : w.cursor.previous ≡ std.Some last) where
    the_last : LastRecord s stands.before last.contig last.end
    unfolding PreviousOf
    the_last = rw e at stands.at.cursor.previous

    first_is : the_last.last.pos ≡ w.first.0
    unfolding FirstOf
    first_is = rw the_last.nearest at stands.at.first

    pub some_read : 1 ≤ w.cursor.read
    some_read = omega (arith, stands.at.cursor.read, ap length the_last.nearest)

    module _ (p : Place) where
      abbrev tests : Bool
      tests = same_bytes p.contig (bytes_of s last.contig) && leb w.first.0 p.position && leb p.position last.end.0

      holds_is : holds_place p the_last.last ≡ tests
      unfolding holds_place
      holds_is = rw (the_last.on, first_is, the_last.to)

      not_held : tests ≡ false → none ≡ number_of p
      unfolding held_by only_if
      not_held t = rw (the_last.nearest, holds_is, t)

      pub other_contig : same_bytes p.contig (bytes_of s last.contig) ≡ false → none ≡ number_of p
      other_contig t = not_held (rw t)

      pub before_first : p.position < w.first.0 → none ≡ number_of p
      before_first h = not_held (rw (lt-leb w.first.0 p.position h, and-false))

      pub past_end : last.end.0 < p.position → none ≡ number_of p
      past_end h = not_held (rw (lt-leb p.position last.end.0 h, and-false))

      pub holds : same_bytes p.contig (bytes_of s last.contig) ≡ true → w.first.0 ≤ p.position → p.position ≤ last.end.0
          → some (w.cursor.read - 1) ≡ number_of p
      unfolding held_by only_if
      holds t h k =
          let n : w.cursor.read - 1 ≡ length the_last.earlier = omega (arith, stands.at.cursor.read, ap length the_last.nearest) in
          let all : holds_place p the_last.last ≡ true = holds_is ∙ rw (t, le-leb w.first.0 p.position h, le-leb p.position last.end.0 k) in
          let number : number_of p ≡ some (length the_last.earlier) = ap (held_by p) the_last.nearest ∙ rw all in
          ap {B = Option ℕ} some n ∙ sym number
