-- Place by place.
use Prim.Native.Nat.{◌-◌}
use borrow.Author.Rules.{rules}
use lib.ListN.{length}
use mathlib.Core.Path.{refl}
use native.Mathlib.Omega.{arith}
use Rattle.contig_looks.proofs.Counting.{Through, place_ready, through_end, through_next, through_start}
use Rattle.contig_looks.specs.Counting.{CountReady}
use Rattle.contig_looks.proofs.count_place.Reads as count-place-reads
use Rattle.contig_looks.proofs.count_window.Given as goal

abbrev pub invariant-loop-place : goal.invariant-loop-place
invariant-loop-place l = (ready : CountReady l.clipped l.places l.initial.along) → Through ready l.along l.place-index
