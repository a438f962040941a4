-- None of the values that a call wrote is above 0, where none of those that its contract names is.
-- Assumes nothing.
use Prim.Native.Nat.{ℕ}
use lib.Dec.{T}
use lib.Ieee.{Float}
use lib.ListN.{length, take}
use lib.Seq.{take_at}
use mathlib.Core.Bool.{true}
use mathlib.Core.List.{List, ◌++◌}
use mathlib.Core.Path.{◌∙◌, ◌≡◌, ap, refl, sym}
use Rattle.answers.specs.Answered.{Answered}
use Rattle.answers.specs.declared.Refusal.{Refusal}
use Rattle.definitions.specs.Answers.{output_after, written_of}
use Rattle.definitions.specs.Checked.{Checked, accepted, refused}
use Rattle.definitions.specs.Lists.{all_of}
use Rattle.laws.proofs.Checked.{accepted_same, not_refused}
use Rattle.laws.proofs.Every.{Every, every_map, passes_every}
use Rattle.laws.proofs.Tests.{so}
use Rattle.std.specs.Prelude.{Err, Ok, Result}
use Rattle.likelihoods.specs.Written.{count_of, none_above, not_above}

abbrev pub NotAbove : Float → Type 0
NotAbove x = T (not_above x)

pub none_above_none : (values : List Float) → none_above 0 values ≡ true
unfolding all_of
none_above_none values = refl

pub none_above_front : {n : ℕ} (values behind : List Float) → n ≡ length values → Every NotAbove values → none_above n (values ++ behind) ≡ true
none_above_front values behind e h =
    rw (e, take_at values behind (length values) refl) (passes_every not_above (every_map (λ x. so (not_above x)) h))

module _ {values : Checked (List Float)} {out out' : List Float} where
  by_values : {n : ℕ} (v : Checked (List Float)) → values ≡ v → Answered values out out' (Ok n)
      → ((list : List Float) → values ≡ accepted list → Every NotAbove list) → none_above n out' ≡ true
  unfolding output_after written_of
  by_values (refused row) e a each = not_refused (sym (a.answer ∙ ap written_of e))
  by_values (accepted list) e a each =
      rw (a.output ∙ ap (λ v. output_after v out) e)
      (none_above_front list _ (accepted_same (a.answer ∙ ap written_of e)) (each list e))

  pub written_none_above : (r : Result ℕ Refusal) → Answered values out out' r → ((list : List Float) → values ≡ accepted list → Every NotAbove list)
      → none_above (count_of r) out' ≡ true
  written_none_above (Err r) a each = none_above_none out'
  written_none_above (Ok n) a each = by_values values refl a each
