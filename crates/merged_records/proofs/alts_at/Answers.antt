-- REF as bytes, then the ALTs.
use mathlib.Core.Path.{◌≡◌, ap, refl}
use Rattle.std.proofs.lemmas.Result.{err_from_is_err_and}
use Rattle.std.specs.Prelude.{Err, Result}
use Rattle.answers.specs.Answered.{row_of}
use Rattle.definitions.specs.MergedRef.{unknown_base}
use Rattle.merged_alleles.specs.Alts.{AltsLaid}
use Rattle.merged_ref.specs.Answers.{ref_bytes}
use Rattle.merged_records.specs.Found.{AltsFound}
use Rattle.merged_records.proofs.alts_at.Goals as goal

err_same : {A B : Type 0} {x y : B} → ◌≡◌ {A = Result A B} (Err x) (Err y) → x ≡ y
err_same e = cc

pub collect_target_alleles-laid-requires : goal.collect_target_alleles-laid-requires
unfolding ref_bytes unknown_base
collect_target_alleles-laid-requires c = (c.requires.0, rw c.ref_bytes-allele.ensures c.requires.1)

pub returns-in_err-list : goal.returns-in_err-list
unfolding AltsFound AltsLaid ref_bytes unknown_base
returns-in_err-list c =
    let p = err_from_is_err_and c.from_residual.result c.from_residual.ensures.1 in
    let none = c.in_err-list.ensures.ok_part in
    let e = rw none at c.in_err-list.ensures.value in
    rw (p.1, p.2) (ap row_of (err_same e), rw (c.ref_bytes-allele.ensures, none) at c.collect_target_alleles-laid.ensures)

pub returns : goal.returns
unfolding AltsFound AltsLaid ref_bytes unknown_base
returns c = record {
  number = refl;
  same_ref = refl;
  written = rw (c.ref_bytes-allele.ensures, c.in_ok-list.ensures.ok_part) at c.collect_target_alleles-laid.ensures;
}
