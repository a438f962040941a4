-- Window by window; then what is held back is laid.
use Prim.Native.Nat.{◌+◌, ◌≤◌, ℕ}
use borrow.Author.Rules.{rules}
use lib.Dec.{ltb}
use lib.ListN.{length}
use mathlib.Core.Bool.{Bool, cond, false}
use mathlib.Core.List.{List, []}
use mathlib.Core.Path.{◌∙◌, ◌≡◌, refl}
use native.Mathlib.Omega.{arith}
use Rattle.breakpoint_windows.proofs.ContigWindows.{contig_window, fewer_left, none_left, stored_exactly, stored_within}
use Rattle.breakpoint_windows.specs.Breakpoints.{all_breakpoints, spans_of}
use Rattle.contig_walk.specs.Laying.{TurnRoom}
use Rattle.contig_walk.specs.Walk.{Begun, RecordsWalked, WalkRoom}
use Rattle.covering_sites.proofs.Ended.{ended_start}
use Rattle.covering_sites.specs.Ended.{Ended}
use Rattle.definitions.specs.Lists.{filter_by}
use Rattle.window_walk.proofs.AllWindows.{carried_end, carried_start, numbers_exactly, window_ready}
use Rattle.window_walk.proofs.OnePlace.{pending_fits}
use Rattle.window_walk.specs.Windows.{Carried, Carrying, WalkedTo, WindowsReady, numbers_in}
use Rattle.window_walk.specs.declared.Along.{Along}
use Rattle.window_walk.proofs.walk_windows.Given as goal

pub record Inv (s rows : List ℕ) (samples : ℕ) (clipped : Bool) (clip : List ℕ) (referenced : Bool)
    (reference contig chosen bounds scratch₀ held₀ fresh₀ alts₀ out₀ : List ℕ)
    (at count : ℕ) (scratch held fresh alts out found owners from : List ℕ) (along : Along) : Type 0 where
  pub scratch-long : length scratch ≡ length scratch₀
  pub held-long : length held ≡ length held₀
  pub fresh-long : length fresh ≡ length fresh₀
  pub alts-long : length alts ≡ length alts₀
  pub out-long : length out ≡ length out₀
  pub found-long : length found ≡ 64
  pub owners-long : length owners ≡ 64
  pub from-long : length from ≡ 64
  pub ended : Ended rows chosen bounds from samples along.past
  pub way : (ready : WindowsReady s rows samples clipped clip referenced reference contig chosen bounds) (begun : Begun out₀ at count)
      → Carried ready.runs.on.loaded.input samples contig begun.d₀ begun.bytes begun.records held out along

abbrev pub invariant-loop-along : goal.invariant-loop-along
invariant-loop-along l = Inv l.s l.rows l.samples l.clipped l.clip l.referenced l.reference l.contig l.chosen l.bounds
    l.initial.scratch l.initial.held l.initial.fresh l.initial.alts l.initial.out l.at l.count
    l.scratch l.held l.fresh l.alts l.out l.found l.owners l.from l.along

abbrev pub decreases-loop-along : goal.decreases-loop-along
decreases-loop-along l =
    length (filter_by (ltb l.along.past) (all_breakpoints l.rows (numbers_in l.samples l.chosen l.bounds) (spans_of l.clip l.contig)))
