-- Place by place.
use Prim.Native.Nat.{◌-◌, ℕ}
use borrow.Author.Rules.{rules}
use lib.ListN.{length}
use mathlib.Core.Bool.{Bool}
use mathlib.Core.List.{List}
use mathlib.Core.Path.{◌∙◌, ◌≡◌, refl}
use native.Mathlib.Omega.{arith}
use Rattle.contig_walk.specs.Laying.{TurnRoom}
use Rattle.window_walk.proofs.OneWindow.{Through, carrying, place_ready, same_room, through_end, through_next, through_start}
use Rattle.window_walk.specs.Windows.{Carrying, WalkedTo, WindowReady}
use Rattle.window_walk.specs.declared.Along.{Along}
use Rattle.window_walk.proofs.walk_window.Given as goal

pub record Inv (s rows : List ℕ) (samples : ℕ) (clipped referenced : Bool)
    (reference contig chosen from₀ bounds places held₀ fresh₀ found₀ owners₀ alts₀ out₀ : List ℕ)
    (along₀ : Along) (from held fresh found owners alts out : List ℕ) (along : Along) (k : ℕ) : Type 0 where
  pub from-long : length from ≡ length from₀
  pub held-long : length held ≡ length held₀
  pub fresh-long : length fresh ≡ length fresh₀
  pub found-long : length found ≡ length found₀
  pub owners-long : length owners ≡ length owners₀
  pub alts-long : length alts ≡ length alts₀
  pub out-long : length out ≡ length out₀
  pub way : (ready : WindowReady s rows samples clipped referenced reference contig chosen from₀ bounds places along₀.past
      held₀ fresh₀ found₀ owners₀ alts₀)
      (way : Carrying ready.runs.on.loaded.input samples contig held₀ out₀ along₀)
      → Through ready way from held out along k

abbrev pub invariant-loop-place : goal.invariant-loop-place
invariant-loop-place l = Inv l.s l.rows l.samples l.clipped l.referenced l.reference l.contig l.chosen l.initial.from l.bounds l.places
    l.initial.held l.initial.fresh l.initial.found l.initial.owners l.initial.alts l.initial.out l.initial.along
    l.from l.held l.fresh l.found l.owners l.alts l.out l.along l.place-index
