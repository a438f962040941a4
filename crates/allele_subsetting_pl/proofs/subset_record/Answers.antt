-- One check after the other.
use Prim.Native.Nat.{◌<◌, ◌^◌, ℕ}
use borrow.Author.Rules.{rules}
use mathlib.Core.Path.{◌∙◌, sym}
use borrow.Author.Tests.{not-false, not-true}
use lib.Dec.{ltb}
use lib.ListN.{length}
use mathlib.Core.List.{List, tail}
use mathlib.Core.Path.{◌∙◌}
use native.Mathlib.Omega.{arith}
use Rattle.allele_subsetting_pl.proofs.Assigned.{assigned_alts_length, assigned_keep_list, keeps_ref, tail_part, tail_passes}
use Rattle.allele_subsetting_pl.proofs.UnusedAltSubsets.{ad_measured, alts_measured, answered_refused, answered_written, ad_stored, alts_stored, likelihoods_stored, subset_accepted, subset_record, likelihoods_measured, measured_room, not_fitting, refused_within, room_of, with_room_lem, without_ad, without_room}
use Rattle.allele_subsetting_pl.specs.KeepLists.{AltNumbers}
use Rattle.allele_subsetting_pl.specs.UnusedAlts.{AssignedKeep, outputs}
use Rattle.allele_subsetting_pl.proofs.subset_record.Goals as goal

alt-numbers : {alts keep : List ℕ} {n : ℕ} → AssignedKeep alts n keep → length alts < 2 ^ 64 → AltNumbers alts (tail keep)
alt-numbers k h =
    record { counted = omega (arith, assigned_alts_length k); alleles = tail_passes (λ a. ltb a 16) _ (assigned_keep_list k).alleles }

pub returns-then-not-subset_fits : goal.returns-then-not-subset_fits
returns-then-not-subset_fits c = answered_refused (refused_within _ (not_fitting c.args.alts.now c.args.keep.now c.args.gl.now
    c.args.ad.now c.requires (sym c.subset_fits.ensures ∙ c.if-not-subset_fits.true)))

pub returns-then-not-all_below : goal.returns-then-not-all_below
returns-then-not-all_below c = answered_refused (refused_within _ (without_ad c.args.alts.now c.args.keep.now c.args.gl.now
    c.args.ad.now c.requires (sym c.all_below.ensures ∙ c.if-not-all_below.true)))

pub slice_bounds-numbers-count : goal.slice_bounds-numbers-count
slice_bounds-numbers-count c = keeps_ref c.requires

pub slice_bounds-numbers-start : goal.slice_bounds-numbers-start
slice_bounds-numbers-start c = keeps_ref c.requires

pub alts_length-alts_len-requires : goal.alts_length-alts_len-requires
alts_length-alts_len-requires c = rw (tail_part c.args.keep.now) (alt-numbers c.requires (omega (arith, c.well_formed)))

pub num_genotype_likelihoods-gl_len-requires : goal.num_genotype_likelihoods-gl_len-requires
num_genotype_likelihoods-gl_len-requires c = (assigned_keep_list c.requires).few

pub returns-then-not-has_room : goal.returns-then-not-has_room
returns-then-not-has_room c = let out = outputs c.args.alts_out.now c.args.gl_out.now c.args.ad_out.now in
    let fits = sym c.subset_fits.ensures ∙ c.if-not-subset_fits.false in
    let counts = sym c.all_below.ensures ∙ c.if-not-all_below.false in
    let measured = rw (tail_part c.args.keep.now) at c.alts_length-alts_len.ensures in
    answered_refused
    (without_room (subset_record c.args.alts.now c.args.keep.now c.args.gl.now c.args.ad.now c.requires) out
    (measured_room c.args.alts.now c.args.keep.now c.args.gl.now c.args.ad.now c.requires out
    c.has_room.ensures measured c.num_genotype_likelihoods-gl_len.ensures ∙ c.if-not-has_room.true)
    (subset_accepted c.args.alts.now c.args.keep.now c.args.gl.now c.args.ad.now c.requires fits counts))

pub put_alts-requires : goal.put_alts-requires
put_alts-requires c = rw (tail_part c.args.keep.now) (alt-numbers c.requires (omega (arith, c.well_formed)))

pub subset_likelihoods-requires : goal.subset_likelihoods-requires
subset_likelihoods-requires c = assigned_keep_list c.requires

pub subset_ad-requires : goal.subset_ad-requires
subset_ad-requires c = assigned_keep_list c.requires

pub returns : goal.returns
returns c = let alts = c.args.alts.now in
    let keep = c.args.keep.now in
    let gl = c.args.gl.now in
    let ad = c.args.ad.now in
    let out = outputs c.args.alts_out.now c.args.gl_out.now c.args.ad_out.now in
    let fits = sym c.subset_fits.ensures ∙ c.if-not-subset_fits.false in
    let counts = sym c.all_below.ensures ∙ c.if-not-all_below.false in
    let measured = rw (tail_part c.args.keep.now) at c.alts_length-alts_len.ensures in
    let room = measured_room alts keep gl ad c.requires out c.has_room.ensures measured
    c.num_genotype_likelihoods-gl_len.ensures ∙ c.if-not-has_room.false in
    answered_written (with_room_lem (subset_record alts keep gl ad c.requires) out room (subset_accepted alts keep gl ad c.requires fits counts))
    (alts_measured alts keep gl ad c.requires measured) (likelihoods_measured alts keep gl ad c.requires
    c.num_genotype_likelihoods-gl_len.ensures) (ad_measured alts keep gl ad c.requires)
    (room_of (subset_record alts keep gl ad c.requires) out room)
    (record {
      alts = alts_stored alts keep gl ad c.requires (rw (tail_part c.args.keep.now) at c.put_alts.ensures);
      likelihoods = likelihoods_stored alts keep gl ad c.requires c.args.gl_out.now fits c.subset_likelihoods.ensures;
      ad = ad_stored alts keep gl ad c.requires c.args.ad_out.now c.subset_ad.ensures;
    })
