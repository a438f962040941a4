-- The loop's invariant: what the spans before this offset give is added.
use Prim.Native.Nat.{◌-◌, ◌<◌, ◌≤◌, ℕ}
use borrow.Author.Rules.{rules}
use lib.ListN.{length, take}
use mathlib.Core.Bool.{Bool, cond, false, true}
use mathlib.Core.List.{List, [], ◌++◌, ◌∷◌, append_assoc, append-nil, flat_map}
use mathlib.Core.Option.{some}
use mathlib.Core.Path.{◌∙◌, ◌≡◌, ap, refl, sym}
use native.Mathlib.Omega.{arith}
use Rattle.clip_and_reference.proofs.Groups.{read_end, read_faulty, read_group}
use Rattle.clip_and_reference.specs.Groups.{GroupFaulty, GroupTo, SpanRead, spans_read}
use Rattle.definitions.specs.Bytes.{same_bytes}
use Rattle.definitions.specs.ClipAndReference.{Span, span_of}
use Rattle.definitions.specs.Intervals.{spans_on}
use Rattle.definitions.specs.Lists.{filter_by}
use Rattle.laws.proofs.Fillings.{span_places}
use Rattle.laws.proofs.Places.{no_change, weights, weights_append}
use Rattle.laws.proofs.SoundInput.{span_sound}
use Rattle.breakpoint_windows.proofs.AddedPlaces.{added_none, added_then}
use Rattle.breakpoint_windows.specs.Fillings.{Added, Ready, span_gives}
use Rattle.breakpoint_windows.specs.declared.Taken.{Taken}
use Rattle.breakpoint_windows.proofs.add_spans.Given as goal

-- what spans on the contig give
unfoldable pub given : List ℕ → List Span → List ℕ
given contig spans = flat_map span_places (spans_on contig (some spans))

pub record Inv (clip contig : List ℕ) (past : ℕ) (places₀ : List ℕ) (taken : Taken) (places : List ℕ) (now : Taken) (at : ℕ) : Type 0 where
  pub long : length places ≡ length places₀
  pub done : List ℕ
  pub parts : done ++ given contig (spans_read clip at) ≡ given contig (spans_read clip 0)
  pub added : Added past taken done places₀ places now

abbrev pub invariant-loop-at : goal.invariant-loop-at
invariant-loop-at l = Inv l.clip l.contig l.past l.initial.places l.initial.now l.places l.now l.at

abbrev pub decreases-loop-at : goal.decreases-loop-at
decreases-loop-at l = length l.clip - l.at
