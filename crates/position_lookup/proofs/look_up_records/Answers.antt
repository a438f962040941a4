-- The pairs are searched, and then the numbers are given.
use mathlib.Core.Path.{◌∙◌, refl, sym}
use native.Mathlib.Omega.{arith}
use Rattle.laws.proofs.Checked.{then_refused}
use Rattle.laws.proofs.LookUp.{places_few}
use Rattle.site_groups.proofs.Refusals.{err_is}
use Rattle.position_lookup.proofs.Giving.{found_given, found_length, gives_refused, stored_size}
use Rattle.position_lookup.specs.Found.{PairsSearched}
use Rattle.position_lookup.proofs.look_up_records.Goals as goal

pub give_found-requires : goal.give_found-requires
unfolding PairsSearched
give_found-requires c =
    let f = c.in_ok-groups.ensures (record { places = c.requires.0.places; value = c.requires.0.value; few = c.requires.1 }) in
    let size = stored_size f in
    omega (arith, c.requires.0.counted, places_few _ _ c.requires.0.value)

pub returns-in_err-groups : goal.returns-in_err-groups
unfolding PairsSearched
returns-in_err-groups c = λ ready.
    rw (err_is _ _ c.from_residual.ensures.1)
    (gives_refused
    (then_refused _ _ (c.in_err-groups.ensures (record { places = ready.places; value = ready.value; few = c.requires.1 }))) refl)

pub returns : goal.returns
unfolding PairsSearched
returns c = λ ready.
    let f = c.in_ok-groups.ensures (record { places = ready.places; value = ready.value; few = c.requires.1 }) in
    let few = places_few _ ready.places ready.value in
    found_given f (ready.counted ∙ sym (found_length _ _ ready.places _ _ f.value)) (omega (arith, ready.counted)) _
    c.give_found.ensures
