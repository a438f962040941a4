-- By what is found at the interval's first position.
use borrow.Author.Rules.{rules}
use Rattle.std.proofs.lemmas.Result.{err_from_is_err_and}
use mathlib.Core.List.{map}
use mathlib.Core.Path.{ap}
use Rattle.contig_walk.proofs.Turns.{front_within, lay_ready, own_asked, own_known, owners_exact, owners_front, turn_bare, turn_laid, turn_none}
use Rattle.definitions.specs.Alleles.{capital}
use Rattle.definitions.specs.MergedRef.{unknown_base}
use Rattle.merged_records.specs.Found.{RecordFound}
use Rattle.merged_ref.specs.Answers.{ref_bytes}
use Rattle.contig_walk.proofs.walk_interval.Goals as goal

pub merge_reference_confidence-requires : goal.merge_reference_confidence-requires
merge_reference_confidence-requires c = (c.requires.0.runs, c.requires.0.room.for_record, c.requires.0.ended)

pub slice_bounds-own_sites-end : goal.slice_bounds-own_sites-end
unfolding RecordFound
slice_bounds-own_sites-end c = let f = rw c.in-Some.is at (c.in_ok-here.ensures.answer c.requires.0.runs) in
    front_within _ f.all

pub slice_bounds-own_sites-end-2 : goal.slice_bounds-own_sites-end-2
unfolding RecordFound
slice_bounds-own_sites-end-2 c = let f = rw c.in-Some.is at (c.in_ok-here.ensures.answer c.requires.0.runs) in
    f.all

pub slice_bounds-own_sites-end-3 : goal.slice_bounds-own_sites-end-3
unfolding RecordFound
slice_bounds-own_sites-end-3 c = let f = rw c.in-Some.is at (c.in_ok-here.ensures.answer c.requires.0.runs) in
    owners_front c.requires.0 _ _ _ _ _ _ f _ (c.in_ok-here.ensures.sites c.requires.0.runs) (c.in_ok-here.ensures.owners c.requires.0.runs)

pub slice_bounds-own_sites-end-4 : goal.slice_bounds-own_sites-end-4
unfolding RecordFound
slice_bounds-own_sites-end-4 c = let f = rw c.in-Some.is at (c.in_ok-here.ensures.answer c.requires.0.runs) in
    owners_exact c.requires.0 _ _ _ _ _ _ f _ (c.in_ok-here.ensures.sites c.requires.0.runs) (c.in_ok-here.ensures.owners c.requires.0.runs)

pub own_sites-requires : goal.own_sites-requires
unfolding RecordFound
own_sites-requires c = let f = rw c.in-Some.is at (c.in_ok-here.ensures.answer c.requires.0.runs) in
    own_asked c.requires.0 _ _ _ _ _ _ f _ (c.in_ok-here.ensures.sites c.requires.0.runs) (c.in_ok-here.ensures.owners c.requires.0.runs)

pub lay_record-step-requires : goal.lay_record-step-requires
unfolding RecordFound ref_bytes unknown_base
lay_record-step-requires c = let f = rw c.in-Some.is at (c.in_ok-here.ensures.answer c.requires.0.runs) in
    let own = own_known c.requires.0 _ _ _ _ _ _ f _ (c.in_ok-here.ensures.sites c.requires.0.runs) (c.in_ok-here.ensures.owners c.requires.0.runs)
    c.own_sites.ensures in
    (lay_ready c.requires.0 _ _ _ _ _ _ f _ c.part-text.ensures _ own _ (ap (map capital) c.ref_bytes-allele.ensures), c.requires.1)

pub returns-in_default : goal.returns-in_default
unfolding RecordFound
returns-in_default c = λ ready way.
    turn_bare ready way.waiting way.begun.d₀ way.begun.bytes way.begun.records way.holds
    (rw c.in_default.is at (c.in_ok-here.ensures.answer ready.runs)) _ _ way.begun.progress

pub returns-in_err-here : goal.returns-in_err-here
unfolding RecordFound
returns-in_err-here c = λ ready way.
    let f = c.in_err-here.ensures.answer ready.runs in
    let p = err_from_is_err_and c.from_residual.result c.from_residual.ensures.1 in
    rw (p.1, p.2) (turn_none ready way.waiting way.begun.d₀ way.begun.bytes way.begun.records way.holds
    _ f.0 f.1 _ way.begun.progress.measured.laid)

pub returns : goal.returns
unfolding RecordFound ref_bytes unknown_base
returns c = λ ready way.
    let f = rw c.in-Some.is at (c.in_ok-here.ensures.answer ready.runs) in
    let allele_is = ap (map capital) c.ref_bytes-allele.ensures in
    let own = own_known ready _ _ _ _ _ _ f _ (c.in_ok-here.ensures.sites ready.runs) (c.in_ok-here.ensures.owners ready.runs) c.own_sites.ensures in
    turn_laid ready way.waiting way.begun.d₀ way.begun.bytes way.begun.records way.holds
    _ _ _ _ _ _ f _ c.part-text.ensures _ own _ allele_is _ _ _
    (c.lay_record-step.ensures (lay_ready ready _ _ _ _ _ _ f _ c.part-text.ensures _ own _ allele_is) way)
