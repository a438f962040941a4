-- In each turn a contig's records are laid; those of the contigs from the next on are left.
use Prim.Native.Nat.{◌-◌, ℕ}
use borrow.Author.Rules.{rules}
use lib.ListN.{length}
use mathlib.Core.Bool.{Bool}
use mathlib.Core.List.{List}
use mathlib.Core.Path.{◌∙◌, ◌≡◌, refl}
use native.Mathlib.Omega.{arith}
use Rattle.combined_list.proofs.AllContigs.{Going, going_end, going_next, going_refused, going_start, one_ready}
use Rattle.combined_list.specs.Contigs.{AllReady, ContigRoom}
use Rattle.contig_walk.specs.declared.ListEnd.{ListEnd}
use Rattle.combined_list.proofs.walk_contigs.Given as goal

pub record Inv (s rows : List ℕ) (samples : ℕ) (clipped : Bool) (clip : List ℕ) (referenced : Bool) (reference contigs order runs : List ℕ)
    (chosen₀ scratch₀ held₀ fresh₀ alts₀ out₀ : List ℕ) (at : ℕ) (chosen scratch held fresh alts out : List ℕ)
    (end : ListEnd) (c : ℕ) : Type 0 where
  pub chosen-long : length chosen ≡ length chosen₀
  pub scratch-long : length scratch ≡ length scratch₀
  pub held-long : length held ≡ length held₀
  pub fresh-long : length fresh ≡ length fresh₀
  pub alts-long : length alts ≡ length alts₀
  pub out-long : length out ≡ length out₀
  pub going : (ready : AllReady s rows samples clipped clip referenced reference contigs order runs out₀ at) → Going ready out end.at end.count c

abbrev pub invariant-loop-first : goal.invariant-loop-first
invariant-loop-first l = Inv l.s l.rows l.samples l.clipped l.clip l.referenced l.reference l.contigs l.order l.runs
    l.initial.chosen l.initial.scratch l.initial.held l.initial.fresh l.initial.alts l.initial.out l.at
    l.chosen l.scratch l.held l.fresh l.alts l.out l.end l.first-index
