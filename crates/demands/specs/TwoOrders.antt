-- Two orders of one cohort give lists that agree (document 02, Note 7).
use Rattle.std.specs.Prelude.{ℕ, List, ◌≡◌}
use Rattle.std.proofs.Math.Option.{some}
use Rattle.definitions.specs.Checked.{accepted}
use Rattle.definitions.specs.Cohort.{Cohort, cohort_of}
use Rattle.definitions.specs.CombinedList.{Texts, combined_list}
use Rattle.demands.specs.Reordered.{Reordered}
use Rattle.demands.specs.SameRecords.{ListsAgree}

-- For two calls with any scratch and any output: if both are given the same clip or neither is given one, both are given the same
-- reference, the second cohort is the first in another order, and both calls are accepted, then their lists agree. c1 and c2 are
-- what the cohort texts say. Groups of the reference may overlap: the first one in the file that holds a position decides.
abbrev pub TwoOrders : Type 0
TwoOrders =
    (t1 t2 : Texts) (c1 c2 : Cohort) (scratch_length1 scratch_length2 out_length1 out_length2 : ℕ) (reference list1 list2 : List ℕ)
    → t1.clip ≡ t2.clip
    → t1.reference ≡ some reference → t2.reference ≡ some reference
    → cohort_of t1.cohort ≡ accepted c1 → cohort_of t2.cohort ≡ accepted c2 → Reordered c1 c2
    → combined_list t1 scratch_length1 out_length1 ≡ accepted list1
    → combined_list t2 scratch_length2 out_length2 ≡ accepted list2
    → ListsAgree c1 list1 c2 list2
