-- By whether there are too many ALTs, and whether all are assigned.
use Prim.Native.Nat.{◌+◌, ◌≤◌, ℕ}
use borrow.Author.Rules.{rules}
use lib.ListN.{length, take}
use mathlib.Core.List.{List}
use mathlib.Core.Path.{◌∙◌, ◌≡◌, ap, refl, sym}
use native.Mathlib.Nat.{zero-add}
use native.Mathlib.Omega.{arith}
use Rattle.allele_subsetting_pl.proofs.Assigned.{few_assigned}
use Rattle.allele_subsetting_pl.proofs.Fronts.{front, front_length, front_within}
use Rattle.allele_subsetting_pl.proofs.UnusedAltSubsets.{all_named, answered_as, answered_refused, refused_within, some_unnamed, too_many_alts, with_none_above, within_is}
use Rattle.allele_subsetting_pl.specs.UnusedAlts.{AssignedKeep, outputs, subset_within}
use Rattle.definitions.specs.AlleleSubset.{alt_fields, assigned_alleles}
use Rattle.kv_write.specs.Laid.{Laid}
use Rattle.allele_subsetting_pl.proofs.subset_unused_alts_after_merged_genotyping.Goals as goal

-- the keep list stands at the front of its array
module _ (gt : List ℕ) {count r : ℕ} (before : List ℕ) {after : List ℕ} (few : count ≤ 15) (size : length before ≡ 16)
    (l : Laid before 0 (assigned_alleles (count + 1) gt) after r)
  where
    has-place : length (assigned_alleles (count + 1) gt) ≤ length before
    has-place = omega (arith, few_assigned gt (count + 1))

    as_many : r ≡ length (assigned_alleles (count + 1) gt)
    as_many = l.next ∙ zero-add _

    keep-front : take r after ≡ assigned_alleles (count + 1) gt
    keep-front = front (assigned_alleles (count + 1) gt) before l.laid has-place as_many

    keep_length : r ≡ length (take r after)
    keep_length = front_length (assigned_alleles (count + 1) gt) before l.laid has-place as_many

    keep-within : r ≤ length after
    keep-within = front_within (assigned_alleles (count + 1) gt) before l.laid has-place as_many

    assigned-keep : (alts : List ℕ) → count ≡ length (alt_fields alts) → AssignedKeep alts (count + 1) (take r after)
    assigned-keep alts e = record { gt = gt; count = omega arith; few = omega arith; assigned = keep-front }

pub returns-then-alt_alleles-gt15 : goal.returns-then-alt_alleles-gt15
returns-then-alt_alleles-gt15 c = let args = c.args in
    let out = outputs args.alts_out.now args.gl_out.now args.ad_out.now in
    let many = too_many_alts args.alts.now args.gt.now args.gl.now args.ad.now c.alt_count-alt_alleles.ensures c.if-alt_alleles-gt15.true in
    let both =
    with_none_above args.alts.now args.gt.now args.gl.now args.ad.now out
    (answered_refused (within_is args.alts.now args.gt.now args.gl.now args.ad.now out ∙ refused_within out many)) in
    record { answered = both.0; none_above = both.1 }

pub returns-then-left-alleles : goal.returns-then-left-alleles
returns-then-left-alleles c = let args = c.args in
    let out = outputs args.alts_out.now args.gl_out.now args.ad_out.now in
    let all = sym (as_many args.gt.now _ c.if-alt_alleles-gt15.false refl c.output_allele_keep_indices_from_assigned_gt-left.ensures)
    ∙ c.if-left-alleles.true in
    let subset = all_named args.alts.now args.gt.now args.gl.now args.ad.now c.alt_count-alt_alleles.ensures c.if-alt_alleles-gt15.false all in
    let both =
    with_none_above args.alts.now args.gt.now args.gl.now args.ad.now out
    (answered_as
    (within_is args.alts.now args.gt.now args.gl.now args.ad.now out ∙ ap (λ s. subset_within s out) subset)
    c.copy_record.ensures) in
    record { answered = both.0; none_above = both.1 }

pub slice_bounds-keep-end : goal.slice_bounds-keep-end
slice_bounds-keep-end c = let args = c.args in
    keep-within args.gt.now _ c.if-alt_alleles-gt15.false refl c.output_allele_keep_indices_from_assigned_gt-left.ensures

pub slice_bounds-subset_record-end : goal.slice_bounds-subset_record-end
slice_bounds-subset_record-end c = let args = c.args in
    keep_length args.gt.now _ c.if-alt_alleles-gt15.false refl c.output_allele_keep_indices_from_assigned_gt-left.ensures

pub subset_record-requires : goal.subset_record-requires
subset_record-requires c = let args = c.args in
    assigned-keep args.gt.now _ c.if-alt_alleles-gt15.false refl c.output_allele_keep_indices_from_assigned_gt-left.ensures
    args.alts.now c.alt_count-alt_alleles.ensures

pub returns : goal.returns
returns c = let args = c.args in
    let out = outputs args.alts_out.now args.gl_out.now args.ad_out.now in
    let laid = c.output_allele_keep_indices_from_assigned_gt-left.ensures in
    let many = as_many args.gt.now _ c.if-alt_alleles-gt15.false refl laid in
    let subset = some_unnamed args.alts.now args.gt.now args.gl.now args.ad.now c.alt_count-alt_alleles.ensures c.if-alt_alleles-gt15.false
    (λ e. c.if-left-alleles.false (many ∙ e)) in
    let both =
    with_none_above args.alts.now args.gt.now args.gl.now args.ad.now out
    (answered_as
    (within_is args.alts.now args.gt.now args.gl.now args.ad.now out ∙ ap (λ s. subset_within s out) subset)
    (rw (keep-front args.gt.now _ c.if-alt_alleles-gt15.false refl laid) at c.subset_record.ensures)) in
    record { answered = both.0; none_above = both.1 }
