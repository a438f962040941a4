-- Demand 3 at work, by computation: cohorts in which REF grows, a block is cut, samples are put in on all sides, values are
-- missing. Last, two orders of one cohort, with a reference and without.
use Prim.Native.Nat.{ℕ}
use Prim.Native.String.{String}
use lib.ListN.{get_or, get_elem?, length}
use mathlib.Core.List.{List, [], ◌++◌, ◌∷◌, flat_map, flatten, map}
use mathlib.Core.Option
use mathlib.Core.Option.{Option, bind, none, some}
use mathlib.Core.Path.{◌≡◌, refl}
use Rattle.definitions.specs.Alleles.{Allele, alleles_of, non_ref, written_alleles}
use Rattle.definitions.specs.Bytes.{text}
use Rattle.definitions.specs.Checked.{Checked}
use Rattle.definitions.specs.Genotypes.{AllelePair}
use Rattle.definitions.specs.Lines.{line}
use Rattle.definitions.specs.Numbers.{decimal}
use Rattle.definitions.specs.Records.{Record}
use Rattle.demands.proofs.TwoCalls.{OrdersDiffer, TwoCalls, Worked, WorkedOrders, computed, new_list, old_list, orders_differ, records_in, worked, worked_orders}
use Rattle.demands.proofs.WorkedCall.{CalledAs, called_as}

-- ---- texts, written shortly

abbrev cohort : List String → List (List ℕ) → List ℕ
cohort names sites = line "samples" (decimal (length names)) ++ flat_map (λ n. line "sample" (text n)) names ++ flatten sites

-- a site on contig c: start, end, REF, ALT, GQ, DP, MIN_DP, AD, PL, and last the sample's number
abbrev site : String → String → String → String → String → String → String → String → String → String → List ℕ
site start end ref alt gq dp mindp ad pl sample =
    line "site" (text sample) ++ text "contig=c\n" ++ line "start" (text start) ++ line "end" (text end)
    ++ line "ref" (text ref) ++ line "alt" (text alt)
    ++ line "gq" (text gq) ++ line "dp" (text dp) ++ line "mindp" (text mindp) ++ line "ad" (text ad) ++ line "pl" (text pl)

abbrev snp : String → List ℕ
snp = site "10" "10" "A" "G,<NON_REF>" "40" "8" "." "4,4,0" "40,0,50,60,70,80"

abbrev deletion : String → List ℕ
deletion = site "10" "11" "AT" "A,<NON_REF>" "30" "." "." "." "9,0,7,6,5,4"

abbrev block : String → List ℕ
block = site "10" "16" "A" "<NON_REF>" "30" "9" "7" "9,0" "0,30,300"

abbrev inside_block : String → List ℕ
inside_block = site "12" "12" "C" "T,<NON_REF>" "20" "6" "." "3,3,0" "20,0,20,40,40,60"

-- ---- REF grows: the new sample's deletion has a longer REF, so the old ALT, G, is followed as GT

abbrev ref_grows : TwoCalls
ref_grows = record {
  old = cohort ("S1" ∷ []) (snp "0" ∷ []);
  new = cohort ("S0" ∷ "S1" ∷ []) (deletion "0" ∷ snp "1" ∷ []);
  clip = none;
  old_reference = none;
  new_reference = none;
}

ref_grows_lem : Worked ref_grows "10-10:A,G,<NON_REF>" "10-10:AT,GT,A,<NON_REF> 11-11:T,*,<NON_REF>"
unfolding computed
ref_grows_lem = worked ref_grows tt tt (record { names = refl; sites = refl }) refl refl

-- ---- a block of an old sample is cut by the new sample's site, in a clip that itself cuts the block. The second call's
-- reference has a corrected segment in front: REF is C in the first list and T in the second.

abbrev block_cut : TwoCalls
block_cut = record {
  old = cohort ("S0" ∷ []) (block "0" ∷ []);
  new = cohort ("S0" ∷ "S1" ∷ []) (block "0" ∷ inside_block "1" ∷ []);
  clip = some (text "contig=c\nstart=11\nend=14\n");
  old_reference = some (text "contig=c\nfirst=10\nbases=ACGCA\n");
  new_reference = some (text "contig=c\nfirst=11\nbases=TTTTT\n" ++ text "contig=c\nfirst=10\nbases=ACGCA\n");
}

block_cut_lem : Worked block_cut "11-14:C,<NON_REF>" "11-11:T,<NON_REF> 12-12:C,T,<NON_REF> 13-14:T,<NON_REF>"
unfolding computed
block_cut_lem = worked block_cut tt tt (record { names = refl; sites = refl }) refl refl

-- ---- new samples stand before the old ones, between them and behind, and the sites are not in the order of samples

abbrev on_all_sides : TwoCalls
on_all_sides = record {
  old = cohort ("S1" ∷ "S3" ∷ []) (block "1" ∷ snp "0" ∷ []);
  new = cohort ("S0" ∷ "S1" ∷ "S2" ∷ "S3" ∷ "S4" ∷ []) (inside_block "4" ∷ block "3" ∷ snp "1" ∷ block "2" ∷ deletion "0" ∷ []);
  clip = none;
  old_reference = none;
  new_reference = none;
}

on_all_sides_lem : Worked on_all_sides "10-10:A,G,<NON_REF> 11-16:N,<NON_REF>"
    "10-10:AT,GT,A,<NON_REF> 11-11:T,*,<NON_REF> 12-12:C,T,<NON_REF> 13-16:N,<NON_REF>"
unfolding computed
on_all_sides_lem = worked on_all_sides tt tt (record { names = refl; sites = refl }) refl refl

-- the second list is one that can be called; its block is dropped
on_all_sides_called : CalledAs on_all_sides "10-10:AT,GT,A 11-11:T,* 12-12:C,T"
unfolding computed
on_all_sides_called = called_as on_all_sides tt tt refl

-- ---- values of the old samples are missing: GQ and AD of S0, DP, MIN_DP and PL of S1

abbrev snp_of_some : String → List ℕ
snp_of_some = site "10" "10" "A" "G,<NON_REF>" "." "8" "8" "." "40,0,50,60,70,80"

abbrev block_of_some : String → List ℕ
block_of_some = site "10" "16" "A" "<NON_REF>" "30" "." "." "9,0" "."

abbrev missing_values : TwoCalls
missing_values = record {
  old = cohort ("S0" ∷ "S1" ∷ []) (snp_of_some "0" ∷ block_of_some "1" ∷ []);
  new = cohort ("S0" ∷ "S1" ∷ "S2" ∷ []) (snp_of_some "0" ∷ block_of_some "1" ∷ deletion "2" ∷ []);
  clip = none;
  old_reference = none;
  new_reference = none;
}

missing_values_lem : Worked missing_values "10-10:A,G,<NON_REF> 11-16:N,<NON_REF>"
    "10-10:AT,A,GT,<NON_REF> 11-11:T,*,<NON_REF> 12-16:N,<NON_REF>"
unfolding computed
missing_values_lem = worked missing_values tt tt (record { names = refl; sites = refl }) refl refl

-- ---- two orders of one cohort: samples and sites stand in another order, and so do ALTs; S1 has a tie of PLs, at REF and GT and at REF
-- and `<NON_REF>`, which is read for A, so that its GT is REF and GT in the one list and REF and A in the other

abbrev tie : String → List ℕ
tie = site "10" "10" "A" "G,<NON_REF>" "0" "8" "." "4,4,0" "40,0,50,0,70,80"

abbrev bases : List ℕ
bases = text "contig=c\nfirst=10\nbases=ATCGTAC\n"

abbrev other_order : TwoCalls
other_order = record {
  old = cohort ("S0" ∷ "S1" ∷ "S2" ∷ []) (deletion "0" ∷ tie "1" ∷ block "2" ∷ []);
  new = cohort ("S2" ∷ "S1" ∷ "S0" ∷ []) (tie "1" ∷ block "0" ∷ deletion "2" ∷ []);
  clip = none;
  old_reference = some bases;
  new_reference = some bases;
}

other_order_lem : WorkedOrders other_order "10-10:AT,GT,A,<NON_REF> 11-11:T,*,<NON_REF> 12-16:C,<NON_REF>"
    "10-10:AT,A,GT,<NON_REF> 11-11:T,*,<NON_REF> 12-16:C,<NON_REF>"
unfolding computed
other_order_lem = worked_orders other_order bases refl refl tt tt (record { names_there = refl; names_back = refl; sites = refl }) refl refl

-- the GT of a sample in each record of a list, as alleles
abbrev gts_of : ℕ → Checked (List ℕ) → List (Option (List ℕ))
gts_of k list = map (λ (r : Record). bind (get_elem? r.sample_data k) λ v. Option.map (spelled_gt (alleles_of r.alleles)) v.gt) (records_in list)
  where
    spelled_gt : List Allele → AllelePair → List ℕ
    spelled_gt alleles g = written_alleles (get_or alleles g.low non_ref ∷ get_or alleles g.high non_ref ∷ [])

first_gts : gts_of 1 (old_list other_order) ≡ some (text "AT,GT") ∷ none ∷ none ∷ []
unfolding computed
first_gts = refl

second_gts : gts_of 1 (new_list other_order) ≡ some (text "AT,A") ∷ none ∷ none ∷ []
unfolding computed
second_gts = refl

-- ---- the same where a corrected segment stands in front of the reference, and a sample has two sites, the nearer of which counts

abbrev patched : List ℕ
patched = text "contig=c\nfirst=11\nbases=NG\n" ++ bases

abbrev overlapping : TwoCalls
overlapping = record {
  old = cohort ("S0" ∷ "S1" ∷ []) (block "0" ∷ deletion "1" ∷ inside_block "0" ∷ []);
  new = cohort ("S1" ∷ "S0" ∷ []) (block "1" ∷ inside_block "1" ∷ deletion "0" ∷ []);
  clip = some (text "contig=c\nstart=11\nend=14\n");
  old_reference = some patched;
  new_reference = some patched;
}

overlapping_segments : WorkedOrders overlapping "11-11:N,*,<NON_REF> 12-12:C,T,<NON_REF> 13-14:G,<NON_REF>"
    "11-11:N,*,<NON_REF> 12-12:C,T,<NON_REF> 13-14:G,<NON_REF>"
unfolding computed
overlapping_segments = worked_orders overlapping patched refl refl tt tt (record { names_there = refl; names_back = refl; sites = refl }) refl refl

-- ---- without a reference two orders need not agree: at 12 both deletions have a letter, and the first sample's counts

abbrev long_deletion : String → List ℕ
long_deletion = site "10" "12" "ATC" "A,<NON_REF>" "30" "." "." "." "9,0,7,6,5,4"

abbrev later_deletion : String → List ℕ
later_deletion = site "11" "12" "TG" "T,<NON_REF>" "30" "." "." "." "9,0,7,6,5,4"

abbrev no_reference : TwoCalls
no_reference = record {
  old = cohort ("S0" ∷ "S1" ∷ []) (long_deletion "0" ∷ later_deletion "1" ∷ []);
  new = cohort ("S1" ∷ "S0" ∷ []) (long_deletion "1" ∷ later_deletion "0" ∷ []);
  clip = none;
  old_reference = none;
  new_reference = none;
}

no_reference_lem : OrdersDiffer no_reference "10-10:ATC,A,<NON_REF> 11-11:TG,T,*,<NON_REF> 12-12:C,*,<NON_REF>"
    "10-10:ATC,A,<NON_REF> 11-11:TG,T,*,<NON_REF> 12-12:G,*,<NON_REF>"
unfolding computed
no_reference_lem = orders_differ no_reference (record { names_there = refl; names_back = refl; sites = refl }) refl refl refl
