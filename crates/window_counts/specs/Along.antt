-- What two readings of a list's records come to, record by record: the extent of a contig, and the counts of windows.
use Rattle.std.specs.Prelude.{suc, zero, ℕ, get_or, ◌&&◌, cond, List, [], ◌∷◌}
use Rattle.std.proofs.Math.Option.{Option, none, some}
use Rattle.definitions.specs.Bytes.{same_bytes}
use Rattle.definitions.specs.DepthWindows.{is_deep}
use Rattle.definitions.specs.Genotypes.{missing_data}
use Rattle.definitions.specs.Records.{Record, record_end}
use Rattle.window_counts.specs.Counts.{added}
use Rattle.window_counts.specs.declared.Windows.{Windows}

-- what a value becomes record by record
unfoldable pub along : {S : Type 0} → (S → Record → S) → S → List Record → S
along f v [] = v
along f v (r ∷ rs) = along f (f v r) rs

-- a first and a last position
pub record Span : Type 0 where
  pub first : ℕ
  pub last : ℕ

-- with a stretch behind it
abbrev pub wider : Option Span → ℕ → ℕ → Option Span
wider none first last = some (record { first = first; last = last })
wider (some span) first last = some (record { first = span.first; last = last })

-- the extent of a contig with a record behind it, if it is on the contig
unfoldable pub span_with : List ℕ → Option Span → Record → Option Span
span_with contig span r = cond (same_bytes contig r.contig) (wider span r.pos (record_end r)) span

-- so many counts of 0
unfoldable pub zeros : ℕ → List ℕ
zeros zero = []
zeros (suc n) = 0 ∷ zeros n

-- the counts of windows with a record's stretch added, if it is on the contig and the sample's DP is deep
unfoldable pub counts_with : List ℕ → ℕ → ℕ → Windows → List ℕ → Record → List ℕ
counts_with contig sample threshold w counts r =
    cond (same_bytes contig r.contig && is_deep threshold (get_or r.sample_data sample missing_data).dp)
    (added w r.pos (record_end r) counts) counts
