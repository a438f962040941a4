-- A call is refused, or writes its values.
use Prim.Native.Nat.{◌<◌, ◌≤◌, ℕ}
use borrow.Author.Tests.{le-leb, lt-leb}
use lib.ListN.{drop, length}
use mathlib.Core.List.{List, ◌++◌}
use mathlib.Core.Path.{◌≡◌, refl}
use Rattle.definitions.specs.Answers.{output_after, written_of}
use Rattle.definitions.specs.Checked.{Checked, accepted, refused, within}
use Rattle.laws.proofs.Checked.{not_required, required}
use Rattle.std.specs.Prelude.{Err, Ok}
use Rattle.answers.specs.Answered.{Answered, row_of}
use Rattle.answers.specs.declared.Refusal.{Refusal}

pub answered_refused : {A : Type 0} {values : Checked (List A)} {out out' : List A} {r : Refusal} → values ≡ refused (row_of r) → out' ≡ out
    → Answered values out out' (Err r)
unfolding output_after written_of
answered_refused e same = rw e (record { answer = refl; output = same })

pub answered_written : {A : Type 0} {values : Checked (List A)} {list out out' : List A} {n : ℕ} → values ≡ accepted list → n ≡ length list
    → out' ≡ list ++ drop (length list) out → Answered values out out' (Ok n)
unfolding output_after written_of
answered_written e count same = rw e (record { answer = rw count; output = same })

-- row 14
pub not_within : {A : Type 0} (list : List A) {room : ℕ} → room < length list → within room list ≡ refused 14
unfolding within
not_within list h = not_required 14 _ _ (lt-leb _ _ h)

pub is_within : {A : Type 0} (list : List A) {room : ℕ} → length list ≤ room → within room list ≡ accepted list
unfolding within
is_within list h = required 14 _ _ (le-leb _ _ h) refl
