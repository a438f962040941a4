-- The search front to back: for each place, groups are read until a record reaches it.
use Rattle.std.specs.Prelude.{ℕ, length, Bool, cond, false, List, [], ◌∷◌}
use Rattle.std.proofs.Math.Option.{Option, none}
use Rattle.definitions.specs.Checked.{Checked, ◌>>=◌, accepted}
use Rattle.definitions.specs.Lines.{Line}
use Rattle.definitions.specs.ListReader.{record_read}
use Rattle.definitions.specs.Lists.{only_if}
use Rattle.definitions.specs.LookUp.{LookedUp, Place, holds_place, reaches}
use Rattle.definitions.specs.Records.{Record}

-- where a search stands: the records that were read, the nearest first, and the groups that are left
pub record Standing : Type 0 where
  pub read : List Record
  pub left : List (List Line)

-- the record that was read last reaches the place
unfoldable pub reached_by : Place → List Record → Bool
reached_by p [] = false
reached_by p (r ∷ rs) = reaches p r

-- its number, if it holds the place
unfoldable pub held_by : Place → List Record → Option ℕ
held_by p [] = none
held_by p (r ∷ rs) = only_if (holds_place p r) (length rs)

-- groups are read until a record reaches the place, or none is left
unfoldable pub read_until : ℕ → ℕ → Place → List Record → List (List Line) → Checked Standing
read_until samples records p before [] = accepted (record { read = before; left = [] })
read_until samples records p before (g ∷ gs) =
    cond (reached_by p before) (accepted (record { read = before; left = g ∷ gs }))
    (record_read samples records before g >>= λ r. read_until samples records p (r ∷ before) gs)

-- the places one after the other, from where the search stands
unfoldable pub look_on : ℕ → ℕ → List Place → Standing → Checked LookedUp
look_on samples records [] w = accepted (record { found = []; groups = length w.read })
look_on samples records (p ∷ ps) w = do
  v ← read_until samples records p w.read w.left
  l ← look_on samples records ps v
  accepted (record { found = held_by p v.read ∷ l.found; groups = l.groups })
