-- What walking over the intervals of a contig finds and lays.
use Rattle.std.specs.Prelude.{◌+◌, ◌≤◌, ℕ, length, Bool, true, Result, Ok, Err, ◌≡◌}
use Rattle.std.proofs.lemmas.List.Edits.{sets}
use mathlib.Core.List.{List, ◌++◌, flat_map}
use Rattle.clip_and_reference.specs.Groups.{SpansFrom}
use Rattle.definitions.specs.Checked.{Checked, accepted, refused}
use Rattle.definitions.specs.ClipAndReference.{Span}
use Rattle.definitions.specs.CombinedList.{Input}
use Rattle.definitions.specs.Limits.{max_text_length}
use Rattle.definitions.specs.Lists.{only_if}
use Rattle.definitions.specs.Printed.{printed_record}
use Rattle.definitions.specs.Records.{Record}
use Rattle.coalescing.specs.Steps.{Progress}
use Rattle.answers.specs.Answered.{row_of}
use Rattle.answers.specs.declared.Refusal.{Refusal}
use Rattle.contig_walk.specs.declared.ListEnd.{ListEnd}

-- the clip text, if it is there, is not too long and holds the input's clip
pub record ClipGiven (clipped : Bool) (clip : List ℕ) (x : Input) : Type 0 where
  pub short : clipped ≡ true → length clip ≤ max_text_length
  pub spans : List Span
  pub spans_from : clipped ≡ true → SpansFrom clip 0 spans
  pub clip_is : x.clip ≡ only_if clipped spans

-- a list was begun: so many bytes and records are laid
pub record Begun (out : List ℕ) (at count : ℕ) : Type 0 where
  pub d₀ : List ℕ
  pub bytes : List ℕ
  pub records : ℕ
  pub progress : Progress d₀ bytes records out at count

-- the buffers that the walk fills are long enough
pub record WalkRoom (held fresh alts : List ℕ) : Type 0 where
  pub for_held : 8192 ≤ length held
  pub for_fresh : 8192 ≤ length fresh
  pub for_alts : 4096 ≤ length alts

-- these records are laid behind bytes of so many records
pub record RecordsLaid (records : Checked (List Record)) (d₀ bytes : List ℕ) (before : ℕ) (out : List ℕ) (at count : ℕ) : Type 0 where
  pub list : List Record
  pub merged : records ≡ accepted list
  pub progress : Progress d₀ (bytes ++ flat_map printed_record list) (before + length list) out at count

-- or a row refuses them, and some records that come before it were laid
pub record RecordsRefused (records : Checked (List Record)) (d₀ bytes out : List ℕ) (row : ℕ) : Type 0 where
  pub merged : records ≡ refused row
  pub list : List Record
  pub laid : out ≡ sets d₀ 0 (bytes ++ flat_map printed_record list)

unfoldable pub RecordsWalked : Checked (List Record) → List ℕ → List ℕ → ℕ → List ℕ → Result ListEnd Refusal → Type 0
RecordsWalked records d₀ bytes before out (Ok end) = RecordsLaid records d₀ bytes before out end.at end.count
RecordsWalked records d₀ bytes before out (Err refusal) = RecordsRefused records d₀ bytes out (row_of refusal)
