-- Lists of numbers in a row: what is read of them, and that storing one in the row leaves what it is.
use Prim.Native.Nat.{◌+◌, ◌<◌, ◌≤◌, ℕ}
use borrow.Author.Tests.{leb-true, ltb-true}
use lib.Dec.{ltb}
use lib.ListN.{length, length-map}
use mathlib.Core.Bool.{false, true}
use mathlib.Core.List.{List}
use mathlib.Core.Option.{some}
use mathlib.Core.Path.{◌∙◌, ◌≡◌}
use Rattle.definitions.specs.Bytes.{comma, fields_of}
use Rattle.definitions.specs.Lists.{numbers_from}
use Rattle.definitions.specs.Numbers.{number_list}
use Rattle.kv_text.specs.Fields.{first_numbers}
use Rattle.laws.proofs.Members.{length_numbers}
use Rattle.laws.proofs.Tests.{both_of}
use Rattle.tables.specs.Tables.{column, first_numbers_at, is_stored, numbers_at, part_at, stored_number, stored_numbers}

-- ---- where a list stands

module _ (k most : ℕ) (s rows : List ℕ) (site : ℕ) where
  -- in the row
  pub in_row : is_stored most (column k rows site) ≡ true → numbers_at k most s rows site ≡ some (stored_numbers k rows site)
  unfolding numbers_at
  in_row e = rw e

  pub first_in_row : is_stored most (column k rows site) ≡ true → first_numbers_at k most s rows site ≡ stored_numbers k rows site
  unfolding first_numbers_at
  first_in_row e = rw e

  -- in the text
  pub in_text : is_stored most (column k rows site) ≡ false → numbers_at k most s rows site ≡ number_list (part_at (k + 1) (k + 2) s rows site)
  unfolding numbers_at
  in_text e = rw e

  pub first_in_text : is_stored most (column k rows site) ≡ false
      → first_numbers_at k most s rows site ≡ first_numbers (fields_of comma (part_at (k + 1) (k + 2) s rows site))
  unfolding first_numbers_at
  first_in_text e = rw e

  -- so many
  pub stored_length : length (stored_numbers k rows site) ≡ column k rows site
  unfolding stored_numbers
  stored_length = length-map (numbers_from 0 (column k rows site)) (stored_number k rows site) ∙ length_numbers 0 (column k rows site)

-- what stands in the row has room there
pub stored_some : (most count : ℕ) → is_stored most count ≡ true → 0 < count
unfolding is_stored
stored_some most count e = ltb-true 0 count (both_of (ltb 0 count) _ e).0

pub stored_few : (most count : ℕ) → is_stored most count ≡ true → count ≤ most
unfolding is_stored
stored_few most count e = leb-true count most (both_of (ltb 0 count) _ e).1
