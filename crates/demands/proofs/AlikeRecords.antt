-- The records of an interval in two orders of one cohort agree.
use Prim.Native.Nat.{◌<◌, ℕ}
use lib.Dec.{ltb}
use lib.ListN.{get_elem?, length, length-map}
use mathlib.Core.Bool.{Bool, ◌&&◌, true}
use mathlib.Core.List.Memᴰ
use mathlib.Core.List.{List, [], ◌∷◌}
use mathlib.Core.Option.{Option, map, none, some}
use mathlib.Core.Path.{◌∙◌, ◌≡◌, ap, refl, subst, subst₂, sym}
use native.Mathlib.Omega.{arith}
use Rattle.definitions.specs.Alleles.{Allele, is_block, non_ref}
use Rattle.definitions.specs.Bytes.{same_bytes}
use Rattle.definitions.specs.Checked.{accepted}
use Rattle.definitions.specs.ClipAndReference.{ReferenceSegment}
use Rattle.definitions.specs.Cohort.{Site}
use Rattle.definitions.specs.CombinedList.{Input}
use Rattle.definitions.specs.CoveringSites.{covering_site, covering_sites}
use Rattle.definitions.specs.Genotypes.{SampleData, data_of_sample, site_data}
use Rattle.definitions.specs.Intervals.{Interval}
use Rattle.definitions.specs.Lists.{index_where, numbers_from, only_if}
use Rattle.definitions.specs.MergedAlleles.{merged_alts, remapped_alleles}
use Rattle.definitions.specs.MergedRef.{merged_ref, site_ref, starts_at}
use Rattle.definitions.specs.Records.{Record, end_of}
use Rattle.laws.proofs.Alleles.{block_is, is_block_lem}
use Rattle.laws.proofs.Members.{◌∈◌, any_member, below_at, index_found, length_numbers, member_any}
use Rattle.laws.proofs.Tests.{bool_ext, not_none, some_same}
use Rattle.demands.specs.Inserted.{unnumbered}
use Rattle.demands.specs.Preserved.{SameCalls}
use Rattle.demands.specs.Reordered.{Reordered}
use Rattle.demands.specs.SameRecords.{SameGts, is_alt}
use Rattle.demands.proofs.CarriedAlleles.{there_here}
use Rattle.demands.proofs.CoalescedAlike.{Alike}
use Rattle.demands.proofs.CoveringSites.{data_none, data_some, first_covering}
use Rattle.demands.proofs.ExtendedRef.{extends}
use Rattle.demands.proofs.IntervalRecord.{alleles_at, made}
use Rattle.demands.proofs.IntervalsBetween.{inside, is_inside}
use Rattle.demands.proofs.ListAtPosition.{HasRecord, Parts, record_at}
use Rattle.demands.proofs.RecordsPreserved.{data_at, same_records}
use Rattle.demands.proofs.RefinedIntervals.{covering_there, same_at}
use Rattle.demands.proofs.GtOfLeastPl.{gt_of_least_pl, same_gt}
use Rattle.demands.proofs.Included.{reordered_back, reordered_forth}
use Rattle.demands.proofs.Placed.{Placed}
use Rattle.demands.proofs.SameAlleles.{There, extend_self, only_non_ref_lem, same_ref}

module _ (x1 x2 : Input) (segments : List ReferenceSegment) (reference1 : x1.reference ≡ some segments)
    (reference2 : x2.reference ≡ some segments) (same-clip : x1.clip ≡ x2.clip) (sound1 : Placed x1.cohort)
    (sound2 : Placed x2.cohort) (re : Reordered x1.cohort x2.cohort) (g : List ℕ) (i : Interval)
    (r1 : HasRecord x1 g i) (r2 : HasRecord x2 g i) (parts1 : Parts x1 sound1 g i) (parts2 : Parts x2 sound2 g i) where
  covering1 : List Site
  covering1 = covering_sites x1.cohort g i.first

  covering2 : List Site
  covering2 = covering_sites x2.cohort g i.first

  in_it : inside i.first i ≡ true
  in_it = is_inside i.first i (omega arith) parts1.ordered

  there : There covering1 covering2
  unfolding covering1 covering2
  there = covering_there x1 x2 same-clip sound1 sound2 (reordered_forth re) g i.first i i r1.among r2.among in_it in_it

  back : There covering2 covering1
  unfolding covering1 covering2
  back = covering_there x2 x1 (sym same-clip) sound2 sound1 (reordered_back re) g i.first i i r2.among r1.among in_it in_it

  merged1 : merged_ref (some segments) g i.first covering1 ≡ accepted parts1.ref
  unfolding covering1
  merged1 = subst (λ o. merged_ref o g i.first covering1 ≡ accepted parts1.ref) reference1 parts1.merged

  merged2 : merged_ref (some segments) g i.first covering2 ≡ accepted parts2.ref
  unfolding covering2
  merged2 = subst (λ o. merged_ref o g i.first covering2 ≡ accepted parts2.ref) reference2 parts2.merged

  refs : parts1.ref ≡ parts2.ref
  refs = same_ref segments g i.first covering1 covering2 parts1.ref parts2.ref merged1 merged2 there back

  merged2' : merged_ref (some segments) g i.first covering2 ≡ accepted parts1.ref
  merged2' = merged2 ∙ ap accepted (sym refs)

  abbrev ref : List ℕ
  ref = parts1.ref

  alt_there : (a : Allele) → a ∈ merged_alts ref i.first covering1 → a ∈ merged_alts ref i.first covering2
  alt_there a m =
      subst (λ (b : Allele). b ∈ merged_alts ref i.first covering2) (extend_self ref a)
      (there_here ref ref i.first covering1 covering2 there
      (extends (some segments) (some segments) g i.first covering1 covering2 ref ref merged1 merged2' there) a m)

  alt_back : (a : Allele) → a ∈ merged_alts ref i.first covering2 → a ∈ merged_alts ref i.first covering1
  alt_back a m =
      subst (λ (b : Allele). b ∈ merged_alts ref i.first covering1) (extend_self ref a)
      (there_here ref ref i.first covering2 covering1 back
      (extends (some segments) (some segments) g i.first covering2 covering1 ref ref merged2' merged1 back) a m)

  -- blocks in both
  non_ref_both : is_block (alleles_at ref i.first covering1) ≡ true → merged_alts ref i.first covering2 ≡ non_ref ∷ []
  unfolding alleles_at
  non_ref_both h =
      let alts = (block_is (alleles_at ref i.first covering1) h).0 in
      only_non_ref_lem ref i.first covering2
      (λ a m. Memᴰ.eq_of_singleton (subst (λ (l : List Allele). a ∈ l) alts (alt_back a m)))

  non_ref_first : is_block (alleles_at ref i.first covering2) ≡ true → merged_alts ref i.first covering1 ≡ non_ref ∷ []
  unfolding alleles_at
  non_ref_first h =
      let alts = (block_is (alleles_at ref i.first covering2) h).0 in
      only_non_ref_lem ref i.first covering1
      (λ a m. Memᴰ.eq_of_singleton (subst (λ (l : List Allele). a ∈ l) alts (alt_there a m)))

  blocks : is_block (alleles_at ref i.first covering1) ≡ is_block (alleles_at ref i.first covering2)
  unfolding alleles_at
  blocks = bool_ext _ _
      (λ h. is_block_lem (alleles_at ref i.first covering2) (non_ref_both h) (block_is (alleles_at ref i.first covering1) h).1)
      (λ h. is_block_lem (alleles_at ref i.first covering1) (non_ref_first h) (block_is (alleles_at ref i.first covering2) h).1)

  -- the data of a sample, found by name, over the same REF and ALTs
  same_data_lem : (alts : List Allele) (n : List ℕ) (k j : ℕ) → index_where (same_bytes n) x1.cohort.names ≡ some k
      → index_where (same_bytes n) x2.cohort.names ≡ some j
      → data_of_sample ref alts i.first covering1 k ≡ data_of_sample ref alts i.first covering2 j
  unfolding covering1 covering2 unnumbered site_data remapped_alleles starts_at site_ref
  same_data_lem alts n k j e f =
      go (covering_site x1.cohort.sites g i.first k) refl (covering_site x2.cohort.sites g i.first j) refl
      (same_at x1 x2 same-clip sound1 sound2 (reordered_forth re) g i.first i i r1.among r2.among in_it in_it n k j e f)
    where
      k_below : k < length x1.cohort.names
      k_below = below_at x1.cohort.names k (index_found _ _ e).1

      j_below : j < length x2.cohort.names
      j_below = below_at x2.cohort.names j (index_found _ _ f).1

      go : (o : Option Site) → covering_site x1.cohort.sites g i.first k ≡ o → (u : Option Site)
          → covering_site x2.cohort.sites g i.first j ≡ u → map unnumbered o ≡ map unnumbered u
          → data_of_sample ref alts i.first covering1 k ≡ data_of_sample ref alts i.first covering2 j
      go none a none b z =
          data_none _ _ _ _ _ (first_covering _ _ _ k k_below ∙ a) ∙ sym (data_none _ _ _ _ _ (first_covering _ _ _ j j_below ∙ b))
      go none a (some t) b z = not_none z
      go (some s) a none b z = not_none (sym z)
      go (some s) a (some t) b z =
          data_some _ _ _ _ _ (first_covering _ _ _ k k_below ∙ a)
          ∙ ap (site_data ref alts i.first) (some_same z)
          ∙ sym (data_some _ _ _ _ _ (first_covering _ _ _ j j_below ∙ b))

  abbrev names1 : List (List ℕ)
  names1 = x1.cohort.names

  abbrev names2 : List (List ℕ)
  names2 = x2.cohort.names

  made1 : Record
  made1 = made (length names1) g i covering1 ref

  made2 : Record
  made2 = made (length names2) g i covering2 ref

  is1 : record_at x1 g i ≡ made1
  unfolding made1 covering1
  is1 = parts1.is

  is2 : record_at x2 g i ≡ made2
  unfolding made2 covering2
  is2 = parts2.is ∙ ap (made (length names2) g i covering2) (sym refs)

  calls_forth : SameCalls names1 made1 names2 made2
  calls_forth =
      subst₂ (λ (a b : Record). SameCalls names1 a names2 b) is1 is2
      (same_records x1 x2 same-clip sound1 sound2 (reordered_forth re) g i.first i i r1 r2 in_it in_it parts1 parts2)

  calls_back : SameCalls names2 made2 names1 made1
  calls_back =
      subst₂ (λ (a b : Record). SameCalls names2 a names1 b) is2 is1
      (same_records x2 x1 (sym same-clip) sound2 sound1 (reordered_back re) g i.first i i r2 r1 in_it in_it
      parts2 parts1)

  same_alts : (a : Allele) → is_alt made1 a ≡ is_alt made2 a
  unfolding made1 made2 made alleles_at is_alt
  same_alts a = bool_ext _ _
      (λ h. let (b, m, same) = any_member _ _ h in member_any _ _ (alt_there b m) same)
      (λ h. let (b, m, same) = any_member _ _ h in member_any _ _ (alt_back b m) same)

  same_gts : SameGts names1 made1 names2 made2
  unfolding SameGts made1 made2
  same_gts n k j e f v w at bt =
      let (j', f', v', w', at', bt', call) = calls_forth.samples n k e in
      let is-v = some_same (sym at ∙ at') in
      let is-w = some_same (sym bt ∙ ap (get_elem? made2.sample_data) (some_same (sym f ∙ f')) ∙ bt') in
      let of-v = some_same (sym at ∙ data_at (length names1) g i covering1 ref k (below_at names1 k (index_found _ _ e).1)) in
      let of-w = some_same (sym bt ∙ data_at (length names2) g i covering2 ref j (below_at names2 j (index_found _ _ f).1)) in
      same_gt made1.alleles made2.alleles v.gt w.gt v.pl w.pl
      (rw of-v (gt_of_least_pl ref (merged_alts ref i.first covering1) i.first covering1 k))
      (rw of-w (gt_of_least_pl ref (merged_alts ref i.first covering2) i.first covering2 j))
      (rw (is-v, is-w) call.pl)

  ends : made1.end ≡ made2.end
  unfolding made1 made2 made end_of
  ends = ap (λ (b : Bool). only_if (b && ltb i.first i.last) i.last) blocks

  counted1 : length made1.sample_data ≡ length names1
  unfolding made1 made
  counted1 =
      length-map (numbers_from 0 (length names1)) (data_of_sample ref (merged_alts ref i.first covering1) i.first covering1)
      ∙ length_numbers 0 (length names1)

  counted2 : length made2.sample_data ≡ length names2
  unfolding made2 made
  counted2 =
      length-map (numbers_from 0 (length names2)) (data_of_sample ref (merged_alts ref i.first covering2) i.first covering2)
      ∙ length_numbers 0 (length names2)

  block_values : is_block made1.alleles ≡ true → (n : List ℕ) (k j : ℕ) → index_where (same_bytes n) names1 ≡ some k
      → index_where (same_bytes n) names2 ≡ some j → get_elem? made1.sample_data k ≡ get_elem? made2.sample_data j
  unfolding made1 made2 made alleles_at
  block_values h n k j e f =
      let alts1 = (block_is (alleles_at ref i.first covering1) h).0 in
      let alts2 = non_ref_both h in
      let k_below = below_at names1 k (index_found _ _ e).1 in
      let j_below = below_at names2 j (index_found _ _ f).1 in
      data_at (length names1) g i covering1 ref k k_below
      ∙ ap {B = Option SampleData} some
      (ap (λ (l : List Allele). data_of_sample ref l i.first covering1 k) (alts1 ∙ sym alts2)
      ∙ same_data_lem (merged_alts ref i.first covering2) n k j e f)
      ∙ sym (data_at (length names2) g i covering2 ref j j_below)

  alike_made : Alike names1 names2 made1 made2
  unfolding made1 made2 made alleles_at
  alike_made = record {
    same = record {
      contig = refl;
      pos = refl;
      end = ends;
      ref = refl;
      alts = same_alts;
      forth = calls_forth;
      back = calls_back;
      gts = same_gts;
    };
    block = blocks;
    count1 = counted1;
    count2 = counted2;
    values = block_values;
  }

  pub alike_records : Alike x1.cohort.names x2.cohort.names (record_at x1 g i) (record_at x2 g i)
  alike_records = subst₂ (Alike names1 names2) (sym is1) (sym is2) alike_made
