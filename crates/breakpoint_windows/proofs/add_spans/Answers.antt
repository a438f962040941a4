-- The loop's invariant: what the spans before this offset give is added.
use Prim.Native.Nat.{◌-◌, ◌<◌, ◌≤◌, ℕ}
use borrow.Author.Rules.{rules}
use lib.ListN.{length, take}
use mathlib.Core.Bool.{Bool, cond, false, true}
use mathlib.Core.List.{List, [], ◌++◌, ◌∷◌, append_assoc, append-nil, flat_map}
use mathlib.Core.Option.{some}
use mathlib.Core.Path.{◌∙◌, ◌≡◌, ap, refl, sym}
use native.Mathlib.Omega.{arith}
use Rattle.clip_and_reference.proofs.Groups.{read_end, read_faulty, read_group}
use Rattle.clip_and_reference.specs.Groups.{GroupFaulty, GroupTo, SpanRead, spans_read}
use Rattle.definitions.specs.Bytes.{same_bytes}
use Rattle.definitions.specs.ClipAndReference.{Span, span_of}
use Rattle.definitions.specs.Intervals.{spans_on}
use Rattle.definitions.specs.Lists.{filter_by}
use Rattle.laws.proofs.Fillings.{span_places}
use Rattle.laws.proofs.Places.{no_change, weights, weights_append}
use Rattle.laws.proofs.SoundInput.{span_sound}
use Rattle.breakpoint_windows.proofs.AddedPlaces.{added_none, added_then}
use Rattle.breakpoint_windows.specs.Fillings.{Added, Ready, span_gives}
use Rattle.breakpoint_windows.specs.declared.Taken.{Taken}
use Rattle.breakpoint_windows.proofs.add_spans.Invariants.{Inv, given}
use Rattle.breakpoint_windows.proofs.add_spans.Goals as goal

given-none : (contig : List ℕ) → given contig [] ≡ []
unfolding given spans_on filter_by flat_map
given-none contig = refl

given-next : (contig : List ℕ) (c : Span) (rest : List Span)
    → given contig (c ∷ rest) ≡ cond (same_bytes contig c.contig) (span_places c) [] ++ given contig rest
unfolding given spans_on filter_by flat_map
given-next contig c rest = go (same_bytes contig c.contig)
  where
    others : List Span
    others = filter_by (λ (d : Span). same_bytes contig d.contig) rest

    go : (b : Bool) → flat_map span_places (cond b (c ∷ others) others) ≡ cond b (span_places c) [] ++ flat_map span_places others
    go true = refl
    go false = refl

start : (clip contig : List ℕ) {past : ℕ} {places : List ℕ} {taken : Taken} → Ready past taken places → Inv clip contig past places taken places taken 0
start clip contig ready = record { long = refl; done = []; parts = refl; added = added_none ready }

module _ {clip contig : List ℕ} {past : ℕ} {places₀ : List ℕ} {taken : Taken} {places : List ℕ} {now : Taken} {at : ℕ}
    (inv : Inv clip contig past places₀ taken places now at) where
  -- nothing is left
  ended : given contig (spans_read clip at) ≡ [] → Added past taken (flat_map span_places (spans_on contig (some (spans_read clip 0)))) places₀ places now
  unfolding given
  ended e =
      let all : inv.done ≡ given contig (spans_read clip 0) =
      sym (append-nil inv.done) ∙ ap (λ (l : List ℕ). inv.done ++ l) (sym e) ∙ inv.parts in
      rw (← all) inv.added

  faulty : GroupFaulty clip at span_of → Added past taken (flat_map span_places (spans_on contig (some (spans_read clip 0)))) places₀ places now
  faulty f = ended (rw (read_faulty span_of clip at f) (given-none contig))

  all_read : length clip ≤ at → Added past taken (flat_map span_places (spans_on contig (some (spans_read clip 0)))) places₀ places now
  all_read h = ended (rw (read_end span_of clip at h) (given-none contig))

  module _ {c : Span} {next : ℕ} {on : Bool} (g : GroupTo clip at span_of c next) (o : on ≡ same_bytes contig c.contig)
      (light : weights (take taken.count places₀ ++ flat_map span_places (spans_on contig (some (spans_read clip 0)))) < no_change) where
    parts_next : (inv.done ++ cond on (span_places c) []) ++ given contig (spans_read clip next) ≡ given contig (spans_read clip 0)
    parts_next =
        append_assoc inv.done (cond on (span_places c) []) (given contig (spans_read clip next))
        ∙ ap (λ (l : List ℕ). inv.done ++ l) (sym (rw (read_group span_of clip g, given-next contig c (spans_read clip next), o)))
        ∙ inv.parts

    light-next : weights (take taken.count places₀ ++ (inv.done ++ cond on (span_places c) [])) < no_change
    unfolding given
    light-next =
        let done = inv.done ++ cond on (span_places c) [] in
        let rest = given contig (spans_read clip next) in
        let all : weights (take taken.count places₀ ++ (done ++ rest)) < no_change = rw parts_next light in
        omega (arith, weights_append (take taken.count places₀) (done ++ rest), weights_append done rest, weights_append (take taken.count places₀) done)

    light-here : weights (take now.count places ++ cond on (span_places c) []) < no_change
    light-here = omega (
      arith,
      light-next,
      inv.added.fills.filling.light,
      weights_append (take now.count places) (cond on (span_places c) []),
      weights_append (take taken.count places₀) (inv.done ++ cond on (span_places c) []),
      weights_append (take taken.count places₀) inv.done,
      weights_append inv.done (cond on (span_places c) []),
    )

    turn : {places' : List ℕ} {r : Taken} → length places' ≡ length places → Added past now (cond on (span_places c) []) places places' r
        → Inv clip contig past places₀ taken places' r next
    turn long a = record {
      long = long ∙ inv.long;
      done = inv.done ++ cond on (span_places c) [];
      parts = parts_next;
      added = added_then inv.done (cond on (span_places c) []) light-next inv.added a;
    }

pub loop-at-init : goal.loop-at-init
loop-at-init c = start _ _ c.requires.ready

pub shape_of-places-in_default : goal.shape_of-places-in_default
shape_of-places-in_default c = c.loop-at.invariant.long

pub returns-in_default : goal.returns-in_default
unfolding SpanRead
returns-in_default c = faulty c.loop-at.invariant (rw c.in_default.is at c.span_at.ensures)

pub add_span-now-requires : goal.add_span-now-requires
unfolding SpanRead span_gives span_places
add_span-now-requires c = let g = rw c.in-Some.is at c.span_at.ensures in
    let sound = span_sound _ _ g.0.value in record { ready = c.loop-at.invariant.added.ready; start_le_max_number = (omega (arith, sound.ordered, sound.in_range_lem), sound.in_range_lem); loc_bound = light-here c.loop-at.invariant g.0 c.is_on-on.ensures c.requires.contig_bound }

pub loop-at-smaller : goal.loop-at-smaller
unfolding SpanRead
loop-at-smaller c = let g = rw c.in-Some.is at c.span_at.ensures in
    omega (arith, g.0.forward, g.0.within)

pub loop-at-preserved : goal.loop-at-preserved
unfolding SpanRead span_gives span_places
loop-at-preserved c = let g = rw c.in-Some.is at c.span_at.ensures in
    let put = c.add_span-now in
    turn c.loop-at.invariant g.0 c.is_on-on.ensures c.requires.contig_bound put.auto.places put.ensures

pub shape_of-places : goal.shape_of-places
shape_of-places c = c.loop-at.invariant.long

pub returns : goal.returns
returns c = all_read c.loop-at.invariant c.loop-at-test.false
