-- For callers: with the sites of a contig in runs and its clip, what walk_windows requires holds.
use Prim.Native.Nat.{ℕ}
use mathlib.Core.Bool.{Bool, cond}
use mathlib.Core.List.{List, []}
use Rattle.breakpoint_windows.proofs.ContigSites.{contig_breakpoints}
use Rattle.contig_walk.specs.Walk.{ClipGiven}
use Rattle.covering_sites.proofs.ContigNumbers.{chosen_are_numbers}
use Rattle.merged_records.specs.Loaded.{ContigRuns}
use Rattle.window_walk.specs.Windows.{WindowsReady}

-- a clip that is left out is an empty text
unfoldable pub windows_ready : {s rows : List ℕ} {samples : ℕ} {referenced : Bool} {reference contig chosen bounds : List ℕ}
    (runs : ContigRuns s rows samples referenced reference contig chosen bounds) {clipped : Bool} {clip : List ℕ}
    → ClipGiven clipped clip runs.on.loaded.input
    → WindowsReady s rows samples clipped (cond clipped clip []) referenced reference contig chosen bounds
windows_ready runs given =
    let on = runs.on in
    let loaded = on.loaded in
    let numbers = chosen_are_numbers loaded.sound.cohort loaded.table loaded.names on.known on.own on.name runs.in_runs in
    record {
      runs = runs;
      points = contig_breakpoints loaded.input given.short given.spans_from given.clip_is loaded.sound loaded.table numbers;
    }
