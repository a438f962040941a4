-- What walking over a contig's breakpoints, a window at a time, is lent and leaves.
use Rattle.std.specs.Prelude.{◌+◌, ℕ, get_or, length, take, Bool, Result, Ok, Err, ◌≡◌}
use mathlib.Core.List.{List, ◌++◌, flat_map}
use Rattle.std.proofs.Math.Option.{Option}
use Rattle.breakpoint_windows.specs.Contig.{ContigBreakpoints, ContigWindow}
use Rattle.coalescing.specs.Held.{Holds}
use Rattle.coalescing.specs.Steps.{Progress}
use Rattle.contig_walk.specs.Laying.{TurnRoom}
use Rattle.contig_walk.specs.Walk.{RecordsRefused}
use Rattle.covering_sites.specs.Ended.{Ended}
use Rattle.definitions.specs.CombinedList.{Input}
use Rattle.definitions.specs.Intervals.{spans_on}
use Rattle.definitions.specs.Printed.{printed_record}
use Rattle.definitions.specs.Records.{Record}
use Rattle.laws.proofs.ClipDepth.{depth}
use Rattle.merged_records.specs.Loaded.{ContigRuns}
use Rattle.record_laws.proofs.Walking.{records_past}
use Rattle.record_laws.specs.Pending.{finish, merged_contig}
use Rattle.window_walk.specs.declared.Along.{Along}
use Rattle.answers.specs.Answered.{row_of}
use Rattle.answers.specs.declared.Refusal.{Refusal}

-- The walk has come to a breakpoint: these records are laid behind the bytes, this one is held back, and what is left from there on gives
-- the rest of the contig's records. The depth is how many clip spans cover it.
pub record Carried (x : Input) (samples : ℕ) (contig d₀ bytes : List ℕ) (records : ℕ) (held out : List ℕ) (along : Along) : Type 0 where
  pub done : List Record
  pub waiting : Option Record
  pub whole : finish done waiting (records_past x contig along.past) ≡ merged_contig x contig
  pub deep : along.depth ≡ depth (spans_on contig x.clip) along.past
  pub holds : Holds samples contig held along.state.pending waiting
  pub progress : Progress d₀ (bytes ++ flat_map printed_record done) (records + length done) out along.state.at along.state.count

-- the same, of a list that was begun
pub record Carrying (x : Input) (samples : ℕ) (contig held out : List ℕ) (along : Along) : Type 0 where
  pub d₀ : List ℕ
  pub bytes : List ℕ
  pub records : ℕ
  pub carried : Carried x samples contig d₀ bytes records held out along

-- it has come to this breakpoint, and the searches begin behind sites that ended before it
pub record CarriedTo (x : Input) (rows : List ℕ) (samples : ℕ) (contig chosen bounds from d₀ bytes : List ℕ) (records : ℕ) (held out : List ℕ)
    (to : ℕ) (along : Along) : Type 0 where
  pub there : along.past ≡ to
  pub carried : Carried x samples contig d₀ bytes records held out along
  pub ended : Ended rows chosen bounds from samples along.past

-- so it has; or a row refuses the contig's records
unfoldable pub WalkedTo : Input → List ℕ → ℕ → List ℕ → List ℕ → List ℕ → List ℕ → List ℕ → List ℕ → ℕ → List ℕ → List ℕ → ℕ
    → Result Along Refusal → Type 0
WalkedTo x rows samples contig chosen bounds from d₀ bytes records held out to (Ok along) =
    CarriedTo x rows samples contig chosen bounds from d₀ bytes records held out to along
WalkedTo x rows samples contig chosen bounds from d₀ bytes records held out to (Err refusal) =
    RecordsRefused (merged_contig x contig) d₀ bytes out (row_of refusal)

-- what going through a window past a position is lent: its places, where the searches begin, and room
pub record WindowReady (s rows : List ℕ) (samples : ℕ) (clipped referenced : Bool) (reference contig chosen from bounds places : List ℕ) (past : ℕ)
    (held fresh found owners alts : List ℕ) : Type 0 where
  pub runs : ContigRuns s rows samples referenced reference contig chosen bounds
  pub window : ContigWindow runs.on.loaded.input clipped contig places past
  pub ended : Ended rows chosen bounds from samples past
  pub room : TurnRoom samples held fresh found owners alts

-- the numbers of a contig's sites, in runs up to the last bound
abbrev pub numbers_in : ℕ → List ℕ → List ℕ → List ℕ
numbers_in samples chosen bounds = take (get_or bounds samples 0) chosen

-- what the walk over a contig is lent: its sites in runs, and the clip text, which give its breakpoints
pub record WindowsReady (s rows : List ℕ) (samples : ℕ) (clipped : Bool) (clip : List ℕ) (referenced : Bool)
    (reference contig chosen bounds : List ℕ) : Type 0 where
  pub runs : ContigRuns s rows samples referenced reference contig chosen bounds
  pub points : ContigBreakpoints runs.on.loaded.input rows (numbers_in samples chosen bounds) clipped clip contig
