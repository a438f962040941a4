-- The first places, sorted; and those, joined.
use Prim.Native.Nat.{◌≤◌, ℕ}
use borrow.Author.Rules.{rules}
use lib.ListN.{drop, length, length-append, take}
use lib.Seq.{length-take-le, take-append-le, take_at}
use mathlib.Core.List.{List, ◌++◌}
use mathlib.Core.Path.{◌∙◌, ◌≡◌, ap, sym}
use native.Mathlib.Omega.{arith}
use Rattle.laws.proofs.Every.{every_member, every_of}
use Rattle.laws.proofs.Places.{join_places, weights_sorted}
use Rattle.laws.proofs.Sorted.{member_sorted, sorted, sorted_length}
use Rattle.breakpoint_windows.specs.Fillings.{Joinable, Settled}
use Rattle.breakpoint_windows.proofs.join_places.Reads as join-places-reads
use Rattle.sorted_places.proofs.sort_places.Reads as sort-places-reads
use Rattle.breakpoint_windows.proofs.settle.Goals as goal

module _ (entry : List ℕ) (count : ℕ) (h : count ≤ length entry) {part : List ℕ} (is : part ≡ sorted (take count entry)) where
  long : length part ≡ count
  long = ap length is ∙ sorted_length (take count entry) ∙ length-take-le count entry h

  front : take count (part ++ drop count entry) ≡ sorted (take count entry)
  front = take_at part (drop count entry) count long ∙ is

  enough : count ≤ length (part ++ drop count entry)
  enough = omega (arith, long, length-append part (drop count entry))

  joinable : Joinable (take count entry) → Joinable (take count (part ++ drop count entry))
  joinable j = rw front (record {
    light = rw (weights_sorted (take count entry)) j.light;
    small = every_of (sorted (take count entry)) (λ e m. every_member (member_sorted (take count entry) m) j.small);
  })

  settled : {r : ℕ} (part' rest : List ℕ) → length part' ≡ length (take count (part ++ drop count entry))
      → r ≤ length (take count (part ++ drop count entry)) → take r part' ≡ join_places (take count (part ++ drop count entry))
      → Settled entry count (part' ++ rest) r
  settled {r} part' rest same few e =
      let all : length (take count (part ++ drop count entry)) ≡ count = length-take-le count (part ++ drop count entry) enough in
      record { few = omega arith; joined = take-append-le r part' rest (omega arith) ∙ e ∙ ap join_places front }

pub slice_bounds-sort_places-end-2 : goal.slice_bounds-sort_places-end-2
slice_bounds-sort_places-end-2 c = sym (length-take-le _ _ c.requires.count_in_bounds)

pub slice_bounds-join_places-end-2 : goal.slice_bounds-join_places-end-2
slice_bounds-join_places-end-2 c = sym (length-take-le _ _ (enough _ _ c.requires.count_in_bounds c.sort_places.ensures))

pub join_places-requires : goal.join_places-requires
join_places-requires c = joinable _ _ c.requires.count_in_bounds c.sort_places.ensures c.requires.joinable

pub returns : goal.returns
returns c = let joined = c.join_places in
    settled _ _ c.requires.count_in_bounds c.sort_places.ensures _ _ joined.auto.places joined.ensures.few joined.ensures.joined
