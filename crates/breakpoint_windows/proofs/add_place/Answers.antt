-- The place is outside the window, or it is stored, or room is made for it first.
use borrow.Author.Rules.{rules}
use Rattle.breakpoint_windows.proofs.AddedPlaces.{before_window, behind_window, has_room, in_window, joinable_all, passed, passed_full, stored, stored_full}
use Rattle.breakpoint_windows.proofs.make_room.Reads as make-room-reads
use Rattle.breakpoint_windows.proofs.add_place.Goals as goal

pub returns-then-position-past : goal.returns-then-position-past
returns-then-position-past c = passed c.requires.ready _ c.requires.place_bound (before_window _ _ _ c.if-position-past.true)

pub returns-then-taken-position : goal.returns-then-taken-position
returns-then-taken-position c = passed c.requires.ready _ c.requires.place_bound (behind_window _ _ _ c.if-taken-position.true)

pub returns-then-count-places : goal.returns-then-count-places
returns-then-count-places c = stored c.requires.ready _ c.requires.place_bound c.if-count-places.true (in_window _ _ _ c.if-position-past.false c.if-taken-position.false)

pub make_room-room-requires : goal.make_room-room-requires
make_room-room-requires c = let ready = c.requires.ready in
    record { in_bounds = ready.room; joinable = joinable_all ready c.if-count-places.false }

pub returns-then-room-position : goal.returns-then-room-position
returns-then-room-position c = let made = c.make_room-room in
    passed_full c.requires.ready c.if-count-places.false made.ensures made.auto.places _ c.requires.place_bound (behind_window _ _ _ c.if-room-position.true)

pub offset_bounds-places-at : goal.offset_bounds-places-at
offset_bounds-places-at c = let made = c.make_room-room in
    let free = has_room c.requires.ready c.if-count-places.false made.ensures made.auto.places in
    search rules

pub bounds-places-at : goal.bounds-places-at
bounds-places-at c = let made = c.make_room-room in
    let free = has_room c.requires.ready c.if-count-places.false made.ensures made.auto.places in
    search rules

pub overflow_add-result-2 : goal.overflow_add-result-2
overflow_add-result-2 c = let made = c.make_room-room in
    let free = has_room c.requires.ready c.if-count-places.false made.ensures made.auto.places in
    search rules

pub returns : goal.returns
returns c = let made = c.make_room-room in
    stored_full c.requires.ready c.if-count-places.false made.ensures made.auto.places _ c.requires.place_bound
    (in_window _ _ _ c.if-position-past.false c.if-room-position.false)
