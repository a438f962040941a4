-- REF, then the ALTs.
use mathlib.Core.Path.{◌∙◌}
use Rattle.merged_records.proofs.Records.{as_merged, covering_some, found_sites_sound, record_found, ref_refused}
use Rattle.merged_records.specs.Found.{RecordFound}
use Rattle.std.proofs.lemmas.Result.{err_from_is_err_and}
use Rattle.merged_ref.proofs.Refs.{answered}
use Rattle.merged_ref.specs.Answers.{ref_answer}
use Rattle.merged_records.proofs.record_over.Goals as goal

pub returns-in_err-at : goal.returns-in_err-at
unfolding RecordFound ref_answer
returns-in_err-at c = let p = err_from_is_err_and c.from_residual.result c.from_residual.ensures.1 in rw (p.1, p.2) λ over.
    (covering_some over.on _ _ over.numbers over.some_site, λ last. ref_refused over.on _ last _ (as_merged over.on _ _ over.numbers c.in_err-at.ensures))

pub alts_at-requires : goal.alts_at-requires
alts_at-requires c =
    let over = c.requires.1 in
    let merged = as_merged over.on _ _ over.numbers c.in_ok-at.ensures in
    (c.requires.0, found_sites_sound over.on _ _ over.numbers _ (merged ∙ answered _ _ _))

pub returns : goal.returns
returns c = λ over.
    let merged = as_merged over.on _ _ over.numbers c.in_ok-at.ensures in
    record_found over.on _ _ over.numbers _ (merged ∙ answered _ _ _) over.some_site _ _ c.alts_at.ensures
