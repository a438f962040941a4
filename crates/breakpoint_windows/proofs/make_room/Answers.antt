-- A quarter is free, or the upper ones are dropped.
use Prim.Native.Nat.{◌+◌, ◌/◌, ◌<◌, ◌≤◌, ℕ}
use borrow.Author.Rules.{rules}
use borrow.Author.Tests.{le-leb, lt-leb}
use lib.ListN.{get_or, length, take}
use lib.Seq.{get_or-take, length-take-le, take-length, take-take}
use mathlib.Core.List.{List}
use mathlib.Core.Path.{◌∙◌, ◌≡◌, ap, sym}
use native.Mathlib.Omega.{arith}
use Rattle.laws.proofs.Places.{join_places, position}
use Rattle.laws.proofs.Sorted.{sorted}
use Rattle.breakpoint_windows.specs.Fillings.{RoomMade, Settled, leaves_room, limit_made, room_made}
use Rattle.breakpoint_windows.proofs.settle.Reads as settle-reads
use Rattle.breakpoint_windows.proofs.make_room.Goals as goal

module _ (limit : ℕ) {entry exit : List ℕ} {r : ℕ} (long : length exit ≡ length entry) (s : Settled entry (length entry) exit r) where
  stored : take r exit ≡ join_places (sorted entry)
  stored = rw (take-length entry) at s.joined

  counted : r ≡ length (join_places (sorted entry))
  counted = sym (length-take-le r exit (omega (arith, s.few))) ∙ ap length stored

  enough : r ≤ length entry / 2 + length entry / 4 → RoomMade limit entry exit (record { count = r; limit = limit })
  unfolding room_made limit_made leaves_room
  enough h =
      let few = le-leb (length (join_places (sorted entry))) (length entry / 2 + length entry / 4) (omega (arith, counted)) in
      record { counted = rw few counted; kept = rw few stored; limited = rw few }

  dropped : length entry / 2 + length entry / 4 < r
      → RoomMade limit entry exit (record { count = length entry / 2; limit = position (get_or exit (length entry / 2) 0) })
  unfolding room_made limit_made leaves_room
  dropped h =
      let many = lt-leb (length (join_places (sorted entry))) (length entry / 2 + length entry / 4) (omega (arith, counted)) in
      let half : length entry / 2 < r = omega arith in
      record {
        counted = rw many (sym (length-take-le (length entry / 2) (join_places (sorted entry)) (omega (arith, counted))));
        kept = rw many (sym (take-take (length entry / 2) r exit (omega arith)) ∙ ap (take (length entry / 2)) stored);
        limited = rw many (ap (λ (e : ℕ). position e) (sym (get_or-take r exit (length entry / 2) 0 half)
            ∙ ap (λ (l : List ℕ). get_or l (length entry / 2) 0) stored));
      }

pub settle-count-requires : goal.settle-count-requires
settle-count-requires c = record { count_in_bounds = omega arith; joinable = rw (take-length _) c.requires.joinable }

pub returns-then-count-half : goal.returns-then-count-half
returns-then-count-half c = let settled = c.settle-count in
    enough _ settled.auto.places settled.ensures c.if-count-half.true

pub returns : goal.returns
returns c = let settled = c.settle-count in
    dropped _ settled.auto.places settled.ensures c.if-count-half.false
