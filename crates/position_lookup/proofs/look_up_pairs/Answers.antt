-- The header, and then the records.
use mathlib.Core.Path.{refl}
use Rattle.laws.proofs.Checked.{then_refused}
use Rattle.laws.proofs.LookUp.{places_ordered}
use Rattle.list_walk.specs.Walk.{HeaderRead}
use Rattle.site_groups.proofs.Refusals.{err_is}
use Rattle.position_lookup.proofs.Giving.{gives_refused, heading_refused, looked_up_is}
use Rattle.position_lookup.proofs.look_up_pairs.Goals as goal

pub look_up_records-requires : goal.look_up_records-requires
unfolding HeaderRead
look_up_records-requires c = (c.requires, c.in_ok-header.ensures.few)

pub returns-in_err-header : goal.returns-in_err-header
unfolding HeaderRead
returns-in_err-header c = λ ready.
    rw (err_is _ _ c.from_residual.ensures.1)
    (gives_refused (then_refused _ _ (heading_refused _ ready.places c.in_err-header.ensures.value)) refl)

pub returns : goal.returns
unfolding HeaderRead
returns c = λ ready.
    rw (looked_up_is c.in_ok-header.ensures ready.places (places_ordered _ _ ready.value)) (c.look_up_records.ensures ready)
