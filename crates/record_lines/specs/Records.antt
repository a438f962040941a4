-- A record that is no block: what laying it asks, and its lines.
use Rattle.std.specs.Prelude.{◌*◌, ◌+◌, ◌<◌, ◌^◌, ◌≤◌, ℕ, length, take, List, ◌++◌}
use Rattle.definitions.specs.Bytes.{comma, fields_of}
use Rattle.definitions.specs.Numbers.{max_number}
use Rattle.laws.proofs.Every.{Every}
use Rattle.laws.proofs.SoundInput.{SoundSite}
use Rattle.record_laws.proofs.Lengths.{most_data}
use Rattle.tables.specs.Tables.{site_at}
use Rattle.record_lines.specs.Head.{head_of}
use Rattle.record_lines.specs.Samples.{printed_samples}

-- what `merge_result_to_record` asks
pub record RecordFits (s rows : List ℕ) (samples : ℕ) (contig : List ℕ) (position : ℕ) (allele own alts : List ℕ) (at : ℕ) : Type 0 where
  pub in_range_lem : position ≤ max_number
  pub enough : samples ≤ length own
  pub sound : Every (λ x. x < length rows → SoundSite (site_at s rows x)) (take samples own)
  pub few : length (fields_of comma alts) ≤ 15
  pub fits : at + length (head_of contig position position allele alts) + most_data * samples < 2 ^ 64

-- its lines
unfoldable pub record_bytes : List ℕ → List ℕ → ℕ → List ℕ → ℕ → List ℕ → List ℕ → List ℕ → List ℕ
record_bytes s rows samples contig position allele own alts =
    head_of contig position position allele alts ++ printed_samples s rows samples own position allele alts
