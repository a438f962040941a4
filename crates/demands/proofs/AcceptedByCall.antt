-- The theorem, `AcceptedByCall` of specs/: what was printed reads back, so only its length can have it refused.
use Prim.Native.Nat.{ℕ}
use lib.Dec.{leb}
use lib.ListN.{length}
use mathlib.Core.Bool.{Bool, false, true}
use mathlib.Core.List.{List}
use mathlib.Core.Path.{◌≡◌, refl}
use Rattle.definitions.specs.CalledList.{called_list, called_records, printed_called_list}
use Rattle.definitions.specs.Checked.{Checked, ◌>>=◌, ◌>>◌, accepted, require, within}
use Rattle.definitions.specs.CombinedList.{Input, Texts, combined_list, fits, input_of}
use Rattle.definitions.specs.Limits.{max_text_length}
use Rattle.definitions.specs.ListReader.{WrittenList, list_read, written_list}
use Rattle.laws.proofs.Checked.{after_required, after_then, required, then}
use Rattle.laws.proofs.CombinedListReadBack.{list_read_back}
use Rattle.laws.proofs.SoundInput.{InputFrom}
use Rattle.demands.specs.AcceptedByCall.{AcceptedByCall}
use Rattle.demands.proofs.ListWritten.{list_written, written_long}

-- an accepted call was accepted with what each of its texts says
input_read : (t : Texts) (scratch_length out_length : ℕ) (list : List ℕ) (x : Input)
    → combined_list t scratch_length out_length ≡ accepted list → InputFrom t x → input_of t ≡ accepted x
unfolding combined_list input_of
input_read t scratch_length out_length list x e from =
    after_then _ _ e λ y p e. after_required _ _ _ p λ fit p.
    required _ _ _ fit (then _ _ from.cohort_read (then _ _ from.clip_read (then _ _ from.reference_read refl)))

-- behind a test, what is accepted is gone on with
required_then : {A B : Type 0} (n : ℕ) (b : Bool) {m : Checked A} (f : A → Checked B) {a : A} → m ≡ accepted a
    → (require n b >> m >>= f) ≡ (require n b >> f a)
unfolding ◌>>=◌ ◌>>◌ require
required_then n true f e = rw e
required_then n false f e = refl

-- bytes that read back as a list are called as that list, unless they are too many
called_list_lem : (s : List ℕ) (n : ℕ) (w : WrittenList) (out_length : ℕ) → n ≡ length s → list_read s ≡ accepted w
    → called_list s out_length
    ≡ (require 2 (leb n max_text_length) >> within out_length (printed_called_list w.names (called_records w.records)))
unfolding called_list written_list fits
called_list_lem s n w out_length long e =
    rw long (required_then 2 (leb (length s) max_text_length)
    (λ (w : WrittenList). within out_length (printed_called_list w.names (called_records w.records))) e)

pub accepted_by_call : AcceptedByCall
accepted_by_call t scratch scratch' out out' n combined =
    let ok = list_written combined in
    let l = list_read_back t (length scratch) (length out) _ ok in (
      l.input,
      l.records,
      input_read t (length scratch) (length out) _ l.input ok l.from,
      l.combined,
      l.read_back,
      λ out_length. called_list_lem _ n _ out_length (written_long combined) l.read_back,
    )
