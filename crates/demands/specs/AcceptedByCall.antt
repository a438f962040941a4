-- What the library's entry wrote is accepted where a list is read to be called.
use Rattle.std.specs.Prelude.{ℕ, leb, length, take, List, ◌≡◌, Ok}
use Rattle.combine_gvcfs.specs.Combined.{Combined}
use Rattle.definitions.specs.CalledList.{called_list, called_records, printed_called_list}
use Rattle.definitions.specs.Checked.{◌>>◌, accepted, require, within}
use Rattle.definitions.specs.CombinedList.{Input, Texts, combined_records, input_of}
use Rattle.definitions.specs.Limits.{max_text_length}
use Rattle.definitions.specs.ListReader.{list_read}
use Rattle.definitions.specs.Records.{Record}

-- For a call with any scratch and any output (primed: what they hold at the end) that wrote n bytes: x is what its texts say, and
-- the bytes read back as the cohort's names and the records that x was combined to. Given as a list to be called, with any output,
-- the bytes are refused with 2 exactly if n is more than a text may have, and else with 14 exactly if the called list of those
-- records is longer than that output; no other row refuses them, and what is given is that called list.
abbrev pub AcceptedByCall : Type 0
AcceptedByCall =
    (t : Texts) (scratch scratch' out out' : List ℕ) (n : ℕ) → Combined t scratch scratch' out out' (Ok n)
    → (x : Input) × (records : List Record)
    × (input_of t ≡ accepted x)
    × (combined_records x (length scratch) ≡ accepted records)
    × (list_read (take n out') ≡ accepted (record { names = x.cohort.names; records = records }))
    × ((out_length : ℕ) → called_list (take n out') out_length ≡ (do
      require 2 (leb n max_text_length)
      within out_length (printed_called_list x.cohort.names (called_records records))))
