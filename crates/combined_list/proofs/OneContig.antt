-- The walk over one contig: the numbers of its sites, and its records.
use Prim.Native.Nat.{◌≤◌, ℕ}
use lib.ListN.{length, length-take, take}
use mathlib.Core.Bool.{Bool}
use mathlib.Core.List.{List}
use mathlib.Core.Path.{◌≡◌, refl}
use native.Mathlib.Omega.{arith}
use Rattle.coalescing.specs.Steps.{Progress}
use Rattle.contig_walk.specs.Walk.{Begun, RecordsWalked}
use Rattle.answers.specs.declared.Refusal.{Refusal}
use Rattle.contig_walk.specs.declared.ListEnd.{ListEnd}
use Rattle.covering_sites.specs.Covering.{contig_sites}
use Rattle.covering_sites.specs.Runs.{Runs}
use Rattle.definitions.specs.CombinedList.{Input, contig_records}
use Rattle.laws.proofs.Checked.{required}
use Rattle.merged_records.specs.Loaded.{ContigRuns}
use Rattle.record_laws.specs.Pending.{merged_contig}
use Rattle.std.specs.Prelude.{Result}
use Rattle.tables.specs.Tables.{part_at}
use Rattle.window_walk.proofs.ContigWindows.{windows_ready}
use Rattle.window_walk.specs.Windows.{WindowsReady}
use Rattle.combined_list.specs.Contigs.{Grouped, IsFirst, given_clip, records_on}

-- with a scratch place the records of a contig are merged and coalesced
contig_merged : (x : Input) (contig : List ℕ) → contig_records x 1 contig ≡ merged_contig x contig
unfolding contig_records merged_contig
contig_merged x contig = required 10 _ _ refl refl

pub taken_exactly : (n : ℕ) (l : List ℕ) → n ≤ length l → n ≡ length (take n l)
taken_exactly n l h = omega (arith, length-take n l)

module _ {s rows : List ℕ} {samples : ℕ} {clipped : Bool} {clip : List ℕ} {referenced : Bool} {reference order bounds : List ℕ}
    (g : Grouped s rows samples clipped clip referenced reference order bounds) {first : ℕ} (f : IsFirst g first)
    {chosen parts : List ℕ} (r : Runs chosen parts samples (contig_sites rows (length g.loaded.input.cohort.sites) first)) where
  module _ {contig : List ℕ} (e : contig ≡ part_at 7 8 s rows first) where
    in_contig_runs : ContigRuns s rows samples referenced reference contig chosen parts
    in_contig_runs = record {
      on = record { loaded = g.loaded; first = first; known = f.known; own = f.own; name = e };
      in_runs = r;
    }

    module _ {text : List ℕ} (t : text ≡ given_clip clipped clip) where
      pub one_windows : WindowsReady s rows samples clipped text referenced reference contig chosen parts
      unfolding in_contig_runs windows_ready
      one_windows =
          let w = windows_ready in_contig_runs g.clip_given in
          record { runs = in_contig_runs; points = rw t w.points }

      -- what the walk over windows says is said of the contig's records
      pub one_walked : (out out' : List ℕ) (at count : ℕ) (w : Result ListEnd Refusal)
          → ((ready : WindowsReady s rows samples clipped text referenced reference contig chosen parts)
          (begun : Begun out at count)
          → RecordsWalked (merged_contig ready.runs.on.loaded.input contig) begun.d₀ begun.bytes begun.records out' w)
          → (d₀ bytes : List ℕ) (records : ℕ) → Progress d₀ bytes records out at count
          → RecordsWalked (records_on g first) d₀ bytes records out' w
      unfolding one_windows in_contig_runs
      one_walked out out' at count w says d₀ bytes records progress =
          let same : records_on g first ≡ merged_contig g.loaded.input contig = rw (← e) (contig_merged _ _) in
          rw same (says one_windows (record { d₀ = d₀; bytes = bytes; records = records; progress = progress }))
