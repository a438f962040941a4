-- The intervals of a contig one after the other: what is left of the contig's records from a breakpoint on (`past_turn`). Only the
-- next breakpoint needs to be at hand (`window_step` of laws).
use Prim.Native.Nat.{◌-◌, ◌<◌, ℕ}
use lib.Dec.{ltb}
use lib.ListN.{length}
use mathlib.Core.Bool.{Bool, cond, false, true}
use mathlib.Core.List.{List, [], ◌∷◌, map}
use mathlib.Core.Option.{none}
use mathlib.Core.Path.{◌∙◌, ◌≡◌, ap, refl, subst, sym}
use Rattle.definitions.specs.Checked.{Checked, ◌>>=◌, accepted, in_order}
use Rattle.definitions.specs.CombinedList.{Input, interval_record, record_intervals}
use Rattle.definitions.specs.CoveringSites.{covering_sites}
use Rattle.definitions.specs.Intervals.{Interval, breakpoints, clipped_intervals, in_clip, intervals_between}
use Rattle.definitions.specs.Lists.{filter_by}
use Rattle.definitions.specs.Records.{Record, coalesce_blocks}
use Rattle.laws.proofs.Every.{Pairwise}
use Rattle.laws.proofs.Members.{filter_no, filter_yes}
use Rattle.laws.proofs.Orders.{ascending_numbers}
use Rattle.laws.proofs.Windows.{past_first}
use Rattle.record_laws.proofs.Coalescing.{at_start, in_order_cons}
use Rattle.record_laws.specs.Pending.{and_later, finish, merged_contig}

module _ (x : Input) (contig : List ℕ) where
  covered : Interval → Bool
  covered i = ltb 0 (length (covering_sites x.cohort contig i.first))

  -- the records of these intervals
  records_of : List Interval → Checked (List Record)
  records_of l = in_order (map (interval_record x contig) (filter_by covered (filter_by (in_clip contig x.clip) l)))

  -- an interval in front of what comes later
  unfoldable pub with_interval : Interval → Checked (List Record) → Checked (List Record)
  with_interval i later =
      cond (in_clip contig x.clip i)
      (cond (ltb 0 (length (covering_sites x.cohort contig i.first))) (and_later (interval_record x contig i) later) later)
      later

  abbrev pub points : List ℕ
  points = breakpoints x.cohort.sites x.clip contig

  -- the records of the intervals from a breakpoint on
  pub records_past : ℕ → Checked (List Record)
  records_past past = records_of (intervals_between (past ∷ filter_by (ltb past) points))

  records_cons : (i : Interval) (l : List Interval) → records_of (i ∷ l) ≡ with_interval i (records_of l)
  unfolding records_of with_interval covered
  records_cons i l = go (in_clip_lem i) refl (covered i) refl
    where
      in_clip_lem : Interval → Bool
      in_clip_lem = in_clip contig x.clip

      these : List Interval → Checked (List Record)
      these k = in_order (map (interval_record x contig) k)

      go : (b : Bool) → in_clip_lem i ≡ b → (c : Bool) → covered i ≡ c
          → records_of (i ∷ l) ≡ cond b (cond c (and_later (interval_record x contig i) (records_of l)) (records_of l)) (records_of l)
      go false e c f = ap (λ (k : List Interval). these (filter_by covered k)) (filter_no in_clip_lem i l e)
      go true e c f =
          ap (λ (k : List Interval). these (filter_by covered k)) (filter_yes in_clip_lem i l e) ∙ rest c f
        where
          rest : (c : Bool) → covered i ≡ c → these (filter_by covered (i ∷ filter_by in_clip_lem l))
              ≡ cond c (and_later (interval_record x contig i) (records_of l)) (records_of l)
          rest true f = ap these (filter_yes covered i (filter_by in_clip_lem l) f) ∙ in_order_cons (interval_record x contig i) _
          rest false f = ap these (filter_no covered i (filter_by in_clip_lem l) f)

  -- from the first breakpoint on they are all
  pub past_start : (b : ℕ) (l : List ℕ) → points ≡ b ∷ l → finish [] none (records_past b) ≡ merged_contig x contig
  unfolding merged_contig records_past records_of covered record_intervals clipped_intervals breakpoints
  past_start b l e =
      let ordered : Pairwise ◌<◌ (b ∷ l) = subst (Pairwise ◌<◌) e (ascending_numbers _) in
      let all : b ∷ filter_by (ltb b) points ≡ points =
      ap (λ (k : List ℕ). b ∷ k) (ap (filter_by (ltb b)) e ∙ past_first b l ordered) ∙ sym e in
      sym (at_start _) ∙ rw all

  -- without breakpoints there are none
  pub past_nothing : points ≡ [] → finish [] none (accepted []) ≡ merged_contig x contig
  unfolding merged_contig record_intervals clipped_intervals intervals_between in_order filter_by
  past_nothing e = sym (at_start _) ∙ rw e

  -- the interval from a breakpoint to the next, and what comes later
  pub past_turn : (past b : ℕ) → filter_by (ltb past) points ≡ b ∷ filter_by (ltb b) points
      → records_past past ≡ with_interval (record { first = past; last = b - 1 }) (records_past b)
  unfolding records_past intervals_between
  past_turn past b e = ap (λ (l : List ℕ). records_of (intervals_between (past ∷ l))) e ∙ records_cons _ _

  -- from the last breakpoint on there are none
  pub past_end : (past : ℕ) → filter_by (ltb past) points ≡ [] → records_past past ≡ accepted []
  unfolding records_past records_of intervals_between in_order filter_by
  past_end past e = ap (λ (l : List ℕ). records_of (intervals_between (past ∷ l))) e
