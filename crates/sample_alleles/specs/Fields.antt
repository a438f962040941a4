-- Where the record's ALTs stand in their text.
use Rattle.std.specs.Prelude.{◌*◌, ◌≤◌, ℕ, drop, length, List, ◌≡◌}
use Rattle.definitions.specs.Bytes.{comma, fields_of}
use Rattle.tables.specs.Tables.{names_in}

-- two numbers of a table for each of so many ALTs say where it stands, as they do for names
pub record AltsAt (alts fields : List ℕ) (count : ℕ) : Type 0 where
  pub split : fields_of comma alts ≡ names_in alts fields count
  pub counted : count ≡ length (fields_of comma alts)
  pub room : 2 * count ≤ length fields

-- they were stored, and behind them the table is as it was
pub record AltsSplit (alts fields₀ fields : List ℕ) (count : ℕ) : Type 0 where
  pub places : AltsAt alts fields count
  pub rest : drop (2 * count) fields ≡ drop (2 * count) fields₀
