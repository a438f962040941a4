-- Two orders of one cohort (`Reordered` of specs/): the same contigs, breakpoints and intervals.
use Prim.Native.Nat.{ℕ}
use lib.Dec.{ltb}
use lib.ListN.{length}
use mathlib.Core.List.{List, map}
use mathlib.Core.Option.{Option}
use mathlib.Core.Path.{◌∙◌, ◌≡◌, ap₂, subst, sym}
use native.Mathlib.Omega.{arith}
use Rattle.definitions.specs.ClipAndReference.{Span}
use Rattle.definitions.specs.Cohort.{Site}
use Rattle.definitions.specs.CombinedList.{Input, record_intervals}
use Rattle.definitions.specs.CoveringSites.{covering_sites}
use Rattle.definitions.specs.Intervals.{Interval, breakpoints, clipped_intervals, contigs_of, in_clip, intervals_between}
use Rattle.definitions.specs.Lists.{filter_by}
use Rattle.laws.proofs.Bytes.{ascending_bytes, bytes_apart}
use Rattle.laws.proofs.Members.{◌∈◌, filter_same, member_filter, member_some, some_member}
use Rattle.laws.proofs.Orders.{same_elements}
use Rattle.laws.proofs.Tests.{bool_ext}
use Rattle.demands.specs.Reordered.{Reordered}
use Rattle.demands.proofs.Included.{reordered_back, reordered_forth}
use Rattle.demands.proofs.IntervalsBetween.{Between, between, breakpoints_ascend, is_inside}
use Rattle.demands.proofs.RefinedIntervals.{contig_there, covering_there, points_there}
use Rattle.demands.proofs.Placed.{Placed}

module _ (x1 x2 : Input) (same-clip : x1.clip ≡ x2.clip) (sound1 : Placed x1.cohort) (sound2 : Placed x2.cohort)
    (re : Reordered x1.cohort x2.cohort) where
  pub same_contigs : contigs_of x1.cohort.sites ≡ contigs_of x2.cohort.sites
  unfolding contigs_of
  same_contigs =
      let names : List Site → List (List ℕ) = map (λ (s : Site). s.contig) in
      same_elements bytes_apart (ascending_bytes (names x1.cohort.sites)) (ascending_bytes (names x2.cohort.sites))
      (λ g. contig_there x1 x2 same-clip sound1 sound2 (reordered_forth re) g)
      (λ g. contig_there x2 x1 (sym same-clip) sound2 sound1 (reordered_back re) g)

  module _ (g : List ℕ) where
    pub same_breakpoints : breakpoints x1.cohort.sites x1.clip g ≡ breakpoints x2.cohort.sites x2.clip g
    same_breakpoints =
        same_elements (λ a b f h. absurd (omega arith))
        (breakpoints_ascend x1.cohort.sites x1.clip g) (breakpoints_ascend x2.cohort.sites x2.clip g)
        (points_there x1 x2 same-clip sound1 sound2 (reordered_forth re) g)
        (points_there x2 x1 (sym same-clip) sound2 sound1 (reordered_back re) g)

    -- the first's intervals that have a record are the second's
    pub same_intervals : record_intervals x1 g ≡ record_intervals x2 g
    unfolding record_intervals clipped_intervals
    same_intervals =
        filter_same _ _ _ covered
        ∙ ap₂ (λ (c : Option (List Span)) (l : List ℕ). filter_by (λ i. ltb 0 (length (covering_sites x2.cohort g i.first)))
        (filter_by (in_clip g c) (intervals_between l))) same-clip same_breakpoints
      where
        bps1 : List ℕ
        bps1 = breakpoints x1.cohort.sites x1.clip g

        covered : (i : Interval) → i ∈ filter_by (in_clip g x1.clip) (intervals_between bps1)
            → ltb 0 (length (covering_sites x1.cohort g i.first)) ≡ ltb 0 (length (covering_sites x2.cohort g i.first))
        covered i m =
            let n1 = (member_filter _ _ m).0 in
            let n2 = subst (λ (l : List ℕ). i ∈ intervals_between l) same_breakpoints n1 in
            let b : Between bps1 i = between bps1 (breakpoints_ascend x1.cohort.sites x1.clip g) n1 in
            let in1 = is_inside i.first i (omega arith) b.ordered in
            bool_ext _ _
            (λ h.
            let (s, k) = some_member (covering_sites x1.cohort g i.first) h in
            let (t, k', e) = covering_there x1 x2 same-clip sound1 sound2 (reordered_forth re) g i.first i i n1 n2 in1 in1 s k in
            member_some (covering_sites x2.cohort g i.first) k')
            (λ h.
            let (s, k) = some_member (covering_sites x2.cohort g i.first) h in
            let (t, k', e) =
            covering_there x2 x1 (sym same-clip) sound2 sound1 (reordered_back re) g i.first i i n2 n1 in1 in1 s k in
            member_some (covering_sites x1.cohort g i.first) k')
