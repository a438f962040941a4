-- The theorem, `TwoOrders` of specs/.
use Prim.Native.Nat.{ℕ}
use mathlib.Core.List.{List, [], ◌∷◌, flatten, map}
use mathlib.Core.Option.{Option, some}
use mathlib.Core.Path.{◌∙◌, ◌≡◌, ap, subst, subst₂, sym}
use Rattle.definitions.specs.Checked.{accepted}
use Rattle.definitions.specs.ClipAndReference.{ReferenceSegment, optional_groups, segment_of, span_of}
use Rattle.definitions.specs.CombinedList.{Input, combined_records, record_intervals}
use Rattle.definitions.specs.Intervals.{Interval, contigs_of}
use Rattle.definitions.specs.Records.{Record, coalesce_blocks}
use Rattle.laws.proofs.Checked.{accepted_same, after_then}
use Rattle.laws.proofs.CombinedListReadBack.{list_read_back}
use Rattle.laws.proofs.Every.{Alongside, along, along_each, along_flatten, ended}
use Rattle.laws.proofs.Members.{◌∈◌}
use Rattle.demands.specs.Reordered.{Reordered}
use Rattle.demands.specs.SameRecords.{SameRecords}
use Rattle.demands.specs.TwoOrders.{TwoOrders}
use Rattle.demands.proofs.AlikeRecords.{alike_records}
use Rattle.demands.proofs.CoalescedAlike.{Alike, coalesce_alike}
use Rattle.demands.proofs.Included.{reordered_back, reordered_forth}
use Rattle.demands.proofs.ListAtPosition.{has_record, on_contig_lem, parts_of, record_at, records_on, whole}
use Rattle.demands.proofs.SameOrder.{same_contigs, same_intervals}
use Rattle.demands.proofs.SampleNames.{name_there}
use Rattle.demands.proofs.Placed.{Placed, placed}

alike_same : (names1 names2 : List (List ℕ)) (l k : List Record) → Alongside (Alike names1 names2) l k
    → SameRecords names1 names2 l k
unfolding SameRecords
alike_same names1 names2 [] [] ended = tt
alike_same names1 names2 [] (s ∷ k) x4 = elim x4 [ ]
alike_same names1 names2 (r ∷ l) [] x4 = elim x4 [ ]
alike_same names1 names2 (r ∷ l) (s ∷ k) (along a rest) = (a.same, alike_same names1 names2 l k rest)

module _ (x1 x2 : Input) (segments : List ReferenceSegment) (reference1 : x1.reference ≡ some segments)
    (reference2 : x2.reference ≡ some segments) (same-clip : x1.clip ≡ x2.clip) (sound1 : Placed x1.cohort)
    (sound2 : Placed x2.cohort) (re : Reordered x1.cohort x2.cohort) (scratch_length1 scratch_length2 : ℕ)
    (records1 records2 : List Record) (ok1 : combined_records x1 scratch_length1 ≡ accepted records1)
    (ok2 : combined_records x2 scratch_length2 ≡ accepted records2) where
  abbrev names1 : List (List ℕ)
  names1 = x1.cohort.names

  abbrev names2 : List (List ℕ)
  names2 = x2.cohort.names

  abbrev contigs1 : List (List ℕ)
  contigs1 = contigs_of x1.cohort.sites

  abbrev contigs2 : List (List ℕ)
  contigs2 = contigs_of x2.cohort.sites

  on1 : List ℕ → List Record
  on1 = records_on x1 sound1 scratch_length1 records1 ok1

  on2 : List ℕ → List Record
  on2 = records_on x2 sound2 scratch_length2 records2 ok2

  contig_alike : (g : List ℕ) → g ∈ contigs1 → Alongside (Alike names1 names2) (on1 g) (on2 g)
  unfolding on1 on2
  contig_alike g m =
      let m2 : g ∈ contigs2 =
      subst (λ (l : List (List ℕ)). g ∈ l) (same_contigs x1 x2 same-clip sound1 sound2 re) m in
      let intervals : record_intervals x1 g ≡ record_intervals x2 g = same_intervals x1 x2 same-clip sound1 sound2 re g in
      let is1 = (on_contig_lem x1 sound1 scratch_length1 records1 ok1 g m).1 in
      let is2 = (on_contig_lem x2 sound2 scratch_length2 records2 ok2 g m2).1 in
      subst₂ (Alongside (Alike names1 names2)) (sym is1)
      (ap (λ (l : List Interval). coalesce_blocks (map (record_at x2 g) l)) intervals ∙ sym is2)
      (coalesce_alike names1 names2 sound1.distinct sound2.distinct
      (name_there x1.cohort x2.cohort sound1 (reordered_forth re))
      (name_there x2.cohort x1.cohort sound2 (reordered_back re))
      (map (record_at x1 g) (record_intervals x1 g)) (map (record_at x2 g) (record_intervals x1 g))
      (along_each (record_at x1 g) (record_at x2 g) (record_intervals x1 g) (λ i n.
      let n2 = subst (λ (l : List Interval). i ∈ l) intervals n in
      alike_records x1 x2 segments reference1 reference2 same-clip sound1 sound2 re g i
      (has_record x1 g i n) (has_record x2 g i n2)
      (parts_of x1 sound1 scratch_length1 records1 ok1 g m i n)
      (parts_of x2 sound2 scratch_length2 records2 ok2 g m2 i n2))))

  pub records_alike : SameRecords x1.cohort.names x2.cohort.names records1 records2
  unfolding on1 on2
  records_alike =
      alike_same names1 names2 records1 records2
      (subst₂ (Alongside (Alike names1 names2))
      (sym (whole x1 sound1 scratch_length1 records1 ok1).1)
      (ap (λ (l : List (List ℕ)). flatten (map on2 l)) (same_contigs x1 x2 same-clip sound1 sound2 re)
      ∙ sym (whole x2 sound2 scratch_length2 records2 ok2).1)
      (along_flatten on1 on2 contigs1 contig_alike))

-- a reference that is given and reads is there
some_groups : (s : List ℕ) (o : Option (List ReferenceSegment)) → optional_groups segment_of (some s) ≡ accepted o
    → (gs : List ReferenceSegment) × (o ≡ some gs)
unfolding optional_groups
some_groups s o h = after_then _ _ h λ gs p e. (gs, sym (accepted_same e))

pub two_orders : TwoOrders
two_orders t1 t2 c1 c2 scratch_length1 scratch_length2 out_length1 out_length2 reference list1 list2
    same-clip given1 given2 read1 read2 re ok1 ok2 =
    let l1 = list_read_back t1 scratch_length1 out_length1 list1 ok1 in
    let l2 = list_read_back t2 scratch_length2 out_length2 list2 ok2 in
    let cohort1 : l1.input.cohort ≡ c1 = accepted_same (sym l1.from.cohort_read ∙ read1) in
    let cohort2 : l2.input.cohort ≡ c2 = accepted_same (sym l2.from.cohort_read ∙ read2) in
    let clip : l1.input.clip ≡ l2.input.clip =
    accepted_same (sym l1.from.clip_read ∙ ap (optional_groups span_of) same-clip ∙ l2.from.clip_read) in
    let there1 = sym (ap (optional_groups segment_of) given1) ∙ l1.from.reference_read in
    let there2 = sym (ap (optional_groups segment_of) given2) ∙ l2.from.reference_read in
    let (segments, is1) = some_groups reference l1.input.reference there1 in
    let is2 = accepted_same (sym there2 ∙ there1) ∙ is1 in (
      l1.records,
      l2.records,
      rw (← cohort1) l1.read_back,
      rw (← cohort2) l2.read_back,
      rw (← cohort1, ← cohort2)
          (records_alike l1.input l2.input segments is1 is2 clip
          (placed l1.from.sound.cohort) (placed l2.from.sound.cohort) (rw (cohort1, cohort2) re)
          scratch_length1 scratch_length2 l1.records l2.records l1.combined l2.combined),
    )
