-- Two orders of one cohort, about two calls of the library's entry, by what it promises (`Combined`).
use Rattle.std.specs.Prelude.{ℕ, take, List, ◌≡◌, Ok}
use Rattle.std.proofs.Math.Option.{some}
use Rattle.combine_gvcfs.specs.Combined.{Combined}
use Rattle.definitions.specs.Checked.{accepted}
use Rattle.definitions.specs.Cohort.{Cohort, cohort_of}
use Rattle.definitions.specs.CombinedList.{Texts}
use Rattle.demands.specs.Reordered.{Reordered}
use Rattle.demands.specs.SameRecords.{ListsAgree}

-- For two calls with any scratch and any output (primed: what they hold at the end): if both are given the same clip or neither is
-- given one, both are given the same reference, the second cohort is the first in another order, and both calls wrote a list, then
-- the n1 and n2 bytes that they wrote are lists that agree.
abbrev pub TwoOrdersOfCombine : Type 0
TwoOrdersOfCombine =
    (t1 t2 : Texts) (c1 c2 : Cohort) (reference : List ℕ)
    (scratch1 scratch1' out1 out1' scratch2 scratch2' out2 out2' : List ℕ) (n1 n2 : ℕ)
    → t1.clip ≡ t2.clip
    → t1.reference ≡ some reference → t2.reference ≡ some reference
    → cohort_of t1.cohort ≡ accepted c1 → cohort_of t2.cohort ≡ accepted c2 → Reordered c1 c2
    → Combined t1 scratch1 scratch1' out1 out1' (Ok n1) → Combined t2 scratch2 scratch2' out2 out2' (Ok n2)
    → ListsAgree c1 (take n1 out1') c2 (take n2 out2')
