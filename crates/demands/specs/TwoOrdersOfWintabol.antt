-- Two orders of one cohort, about two calls of the exported `wintabol_combine`, by what it promises (`ExportedList`).
use Rattle.std.specs.Prelude.{ℕ, take, List, ◌≡◌}
use Rattle.std.proofs.Math.Option.{some}
use Rattle.definitions.specs.Checked.{accepted}
use Rattle.definitions.specs.Cohort.{Cohort, cohort_of}
use Rattle.definitions.specs.CombinedList.{Texts}
use Rattle.wintabol.specs.Exported.{ExportedList}
use Rattle.demands.specs.Reordered.{Reordered}
use Rattle.demands.specs.SameRecords.{ListsAgree}

-- As `TwoOrdersOfCombine`, for two calls that answered 0 and stored n1 and n2 as the bytes that they wrote.
abbrev pub TwoOrdersOfWintabol : Type 0
TwoOrdersOfWintabol =
    (t1 t2 : Texts) (c1 c2 : Cohort) (reference : List ℕ)
    (scratch1 scratch1' out1 out1' scratch2 scratch2' out2 out2' : List ℕ) (n1 n2 : ℕ)
    → t1.clip ≡ t2.clip
    → t1.reference ≡ some reference → t2.reference ≡ some reference
    → cohort_of t1.cohort ≡ accepted c1 → cohort_of t2.cohort ≡ accepted c2 → Reordered c1 c2
    → ExportedList t1 scratch1 scratch1' out1 out1' 0 n1 → ExportedList t2 scratch2 scratch2' out2 out2' 0 n2
    → ListsAgree c1 (take n1 out1') c2 (take n2 out2')
