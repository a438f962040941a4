-- The lengths of the texts, the pairs, and then the list.
use mathlib.Core.Path.{refl}
use Rattle.asked_places.specs.Asked.{PlacesRead}
use Rattle.site_groups.proofs.Refusals.{err_is}
use Rattle.position_lookup.proofs.Giving.{asked_too_long, gives_refused, list_too_long, look_up_is, pairs_refused}
use Rattle.position_lookup.proofs.look_up.Goals as goal

pub returns-then-list-gt16777216 : goal.returns-then-list-gt16777216
returns-then-list-gt16777216 c = gives_refused (list_too_long _ _ _ c.if-list-gt16777216.true) refl

pub returns-then-asked-gt16777216 : goal.returns-then-asked-gt16777216
returns-then-asked-gt16777216 c = gives_refused (asked_too_long _ _ _ c.if-asked-gt16777216.true) refl

pub returns-in_err-count : goal.returns-in_err-count
unfolding PlacesRead
returns-in_err-count c =
    rw (err_is _ _ c.from_residual.ensures.1)
    (gives_refused (pairs_refused _ _ _ c.if-list-gt16777216.false c.if-asked-gt16777216.false c.in_err-count.ensures) refl)

pub look_up_pairs-requires : goal.look_up_pairs-requires
unfolding PlacesRead
look_up_pairs-requires c =
    let p = c.in_ok-count.ensures in
    record { places = p.places; value = p.value; counted = p.counted }

pub returns : goal.returns
unfolding PlacesRead
returns c =
    let p = c.in_ok-count.ensures in
    rw (look_up_is _ _ _ c.if-list-gt16777216.false c.if-asked-gt16777216.false p.places p.value)
    (c.look_up_pairs.ensures (record { places = p.places; value = p.value; counted = p.counted }))
