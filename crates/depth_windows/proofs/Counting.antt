-- The second reading: the counts along the records of a list that was read before.
use Prim.Native.Nat.{ℕ}
use lib.ListN.{length}
use mathlib.Core.List.{List, [], ◌∷◌, map}
use mathlib.Core.Path.{◌∙◌, ◌≡◌, ap, refl}
use Rattle.definitions.specs.Checked.{accepted}
use Rattle.list_reader.specs.declared.RecordPlace.{RecordPlace}
use Rattle.list_walk.specs.Walk.{RecordStep, start_of}
use Rattle.list_walk.specs.declared.ListCursor.{ListCursor}
use Rattle.list_walk.specs.declared.ListHeader.{ListHeader}
use Rattle.window_counts.specs.Along.{counts_with, zeros}
use Rattle.window_counts.specs.declared.Windows.{Windows}
use Rattle.depth_windows.proofs.Places.{adds_ready}
use Rattle.depth_windows.proofs.Walking.{Walking, walk_left, walk_next, walk_start}
use Rattle.depth_windows.specs.Along.{AddsReady, CountReady, all_counted, along_records}
use Rattle.depth_windows.specs.declared.Asked.{Asked}

module _ {s : List ℕ} {h : ListHeader} {contig : List ℕ} {asked : Asked} {w : Windows} {counts₀ : List ℕ} (ready : CountReady s h contig asked w counts₀) where
  pub count_start : Walking (counts_with contig asked.sample.0 asked.threshold w) s h (accepted (all_counted ready)) (start_of h) counts₀
  unfolding along_records
  count_start =
      let f = counts_with contig asked.sample.0 asked.threshold w in
      let all = walk_start f s h counts₀ in
      record { before = all.before; stands = all.stands; rest = all.rest ∙ ap (along_records f counts₀) ready.value }

  pub count_ready : {c c' : ListCursor} {counts rows₀ rows : List ℕ} {p : RecordPlace}
      → Walking (counts_with contig asked.sample.0 asked.threshold w) s h (accepted (all_counted ready)) c counts
      → RecordStep s h c rows₀ rows p c' → AddsReady s p rows contig asked w counts
  count_ready {counts = counts} walking step =
      let f = counts_with contig asked.sample.0 asked.threshold w in
      let back = walk_left f s h (walk_next f s h walking step) in
      adds_ready back.later step walking.stands contig asked w counts ready.windows ready.sample_there (rw back.same ready.fits)

-- counts of 0
pub cleared_zeros : (l : List ℕ) → map (λ _. 0) l ≡ zeros (length l)
unfolding zeros
cleared_zeros [] = refl
cleared_zeros (x ∷ l) = ap (λ (k : List ℕ). 0 ∷ k) (cleared_zeros l)

pub counted_as : {s : List ℕ} {h : ListHeader} {contig : List ℕ} {asked : Asked} {w : Windows} {counts counts' out : List ℕ} → counts ≡ counts'
    → ((r : CountReady s h contig asked w counts) → out ≡ all_counted r) → (r : CountReady s h contig asked w counts') → out ≡ all_counted r
counted_as e f = rw (← e) f
