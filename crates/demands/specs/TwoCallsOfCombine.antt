-- Demand 3 about two calls of the library's entry, by what it promises (`Combined`).
use Rattle.std.specs.Prelude.{ℕ, take, List, ◌≡◌, Ok}
use Rattle.combine_gvcfs.specs.Combined.{Combined}
use Rattle.definitions.specs.Checked.{accepted}
use Rattle.definitions.specs.Cohort.{Cohort, cohort_of}
use Rattle.definitions.specs.CombinedList.{Texts}
use Rattle.demands.specs.Inserted.{Inserted}
use Rattle.demands.specs.Preserved.{ListPreserved}

-- For two calls with any scratch and any output (primed: what they hold at the end): if both are given the same clip or neither is
-- given one, the second cohort is the first with samples put in, and both calls wrote a list, then the n1 and n2 bytes that they
-- wrote read back with their cohorts' names, and the second list says again what the first says.
abbrev pub TwoCallsOfCombine : Type 0
TwoCallsOfCombine =
    (t1 t2 : Texts) (c1 c2 : Cohort)
    (scratch1 scratch1' out1 out1' scratch2 scratch2' out2 out2' : List ℕ) (n1 n2 : ℕ)
    → t1.clip ≡ t2.clip
    → cohort_of t1.cohort ≡ accepted c1 → cohort_of t2.cohort ≡ accepted c2 → Inserted c1 c2
    → Combined t1 scratch1 scratch1' out1 out1' (Ok n1) → Combined t2 scratch2 scratch2' out2 out2' (Ok n2)
    → ListPreserved c1 (take n1 out1') c2 (take n2 out2')
