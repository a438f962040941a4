-- The covering sites, then the record over them.
use borrow.Author.Rules.{rules}
use lib.Seq.{sets}
use mathlib.Core.Path.{◌∙◌, ap}
use Rattle.covering_sites.proofs.CoveringFound.{starts_ascend}
use Rattle.covering_sites.proofs.Search.{found_known}
use Rattle.merged_records.proofs.Records.{at_front, exactly, fits_in, none_covering, over_them, owners_are}
use Rattle.std.proofs.lemmas.Result.{err_from_is_err_and}
use Rattle.merged_records.specs.Found.{RecordFound}
use Rattle.merged_records.proofs.merge_reference_confidence.Goals as goal

pub covering_sites-n-requires : goal.covering_sites-n-requires
covering_sites-n-requires c = let at = c.requires.0 in
    let ascend = starts_ascend _ at.on.loaded.sound.cohort.few_sites at.on.first at.in_runs in
    record { bounded = at.in_runs.bounded; starts_ascend = ascend; ended = c.requires.2; samples_in_bounds = (c.requires.1.for_sites, c.requires.1.for_owners) }

pub returns-then-n-eq0 : goal.returns-then-n-eq0
unfolding RecordFound
returns-then-n-eq0 c = record { answer = λ at. let f = found_known at.in_runs _ _ c.covering_sites-n.ensures in none_covering at.on _ _ c.if-n-eq0.true f.count; sites = λ at. (found_known at.in_runs _ _ c.covering_sites-n.ensures).stored; owners = λ at. (found_known at.in_runs _ _ c.covering_sites-n.ensures).owned ∙ ap (sets _ 0) (owners_are at.on _) }

pub slice_bounds-record_over-end : goal.slice_bounds-record_over-end
slice_bounds-record_over-end c = fits_in c.requires.0.on _ _ _ _ c.requires.1.for_sites (found_known c.requires.0.in_runs _ _ c.covering_sites-n.ensures) c.covering_sites-n.auto.found

pub slice_bounds-record_over-end-2 : goal.slice_bounds-record_over-end-2
slice_bounds-record_over-end-2 c = exactly c.requires.0.on _ _ _ _ c.requires.1.for_sites (found_known c.requires.0.in_runs _ _ c.covering_sites-n.ensures) c.covering_sites-n.auto.found

pub record_over-requires : goal.record_over-requires
record_over-requires c = (c.requires.1.for_alts, over_them c.requires.0.on _ _ _ _ c.requires.1.for_sites (found_known c.requires.0.in_runs _ _ c.covering_sites-n.ensures) c.if-n-eq0.false)

pub returns-in_err-record_over : goal.returns-in_err-record_over
unfolding over_them
returns-in_err-record_over c = let p = err_from_is_err_and c.from_residual.result c.from_residual.ensures.1 in rw (p.1, p.2) record {
  answer = λ at. let f = found_known at.in_runs _ _ c.covering_sites-n.ensures in
      at_front at.on _ _ _ (exactly at.on _ _ _ _ c.requires.1.for_sites f c.covering_sites-n.auto.found) _ _
      (c.in_err-record_over.ensures (over_them at.on _ _ _ _ c.requires.1.for_sites f c.if-n-eq0.false));
  sites = λ at. (found_known at.in_runs _ _ c.covering_sites-n.ensures).stored;
  owners = λ at. (found_known at.in_runs _ _ c.covering_sites-n.ensures).owned ∙ ap (sets _ 0) (owners_are at.on _);
}

pub returns : goal.returns
unfolding over_them
returns c = record {
  answer = λ at. let f = found_known at.in_runs _ _ c.covering_sites-n.ensures in
      at_front at.on _ _ _ (exactly at.on _ _ _ _ c.requires.1.for_sites f c.covering_sites-n.auto.found) _ _
      (c.in_ok-record_over.ensures (over_them at.on _ _ _ _ c.requires.1.for_sites f c.if-n-eq0.false));
  sites = λ at. (found_known at.in_runs _ _ c.covering_sites-n.ensures).stored;
  owners = λ at. (found_known at.in_runs _ _ c.covering_sites-n.ensures).owned ∙ ap (sets _ 0) (owners_are at.on _);
}
