-- Note 9: each answer is that of its pair asked alone, and how many record groups are read.
use Rattle.std.specs.Prelude.{◌≤◌, ℕ, length, List, [], ◌∷◌, ◌≡◌}
use Rattle.std.proofs.Math.ListN.{get_elem?}
use Rattle.std.proofs.Math.Option.{Option, some}
use Rattle.definitions.specs.Checked.{accepted}
use Rattle.definitions.specs.ListReader.{WrittenList, list_read}
use Rattle.definitions.specs.LookUp.{LookedUp, Place, holds_place, last_of, looked_up, places_of, steps_to}
use Rattle.definitions.specs.Lists.{index_where}

-- Places that were read in list order and looked up together: each alone is answered the same, and needs no more groups.
abbrev pub AskedAlone : Type 0
AskedAlone =
    (s asked : List ℕ) (places : List Place) (l : LookedUp)
    → places_of asked ≡ accepted places → looked_up s places ≡ accepted l
    → (k : ℕ) (p : Place) → get_elem? places k ≡ some p
    → (found : Option ℕ) × (groups : ℕ) × (get_elem? l.found k ≡ some found)
    × (looked_up s (p ∷ []) ≡ accepted (record { found = found ∷ []; groups = groups })) × (groups ≤ l.groups)

-- In a list that reads as a whole, the answer is the record that holds the place, and the count is that of the steps to the last.
abbrev pub LookedUpWhole : Type 0
LookedUpWhole =
    (s asked : List ℕ) (places : List Place) (l : LookedUp) (w : WrittenList)
    → places_of asked ≡ accepted places → looked_up s places ≡ accepted l → list_read s ≡ accepted w
    → ((k : ℕ) (p : Place) → get_elem? places k ≡ some p → get_elem? l.found k ≡ some (index_where (holds_place p) w.records))
    × ((p : Place) → last_of places ≡ some p → l.groups ≡ steps_to p w.records)
    × (l.groups ≤ length w.records)
