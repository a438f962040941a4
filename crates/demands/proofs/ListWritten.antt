-- `list_written`: a call that wrote n bytes was accepted, and they are its list.
use Prim.Native.Nat.{ℕ}
use lib.ListN.{drop, length, take}
use lib.Seq.{take_at}
use mathlib.Core.List.{List}
use mathlib.Core.Path.{◌∙◌, ◌≡◌, ap, refl, sym}
use Rattle.std.specs.Prelude.{Ok}
use Rattle.combine_gvcfs.specs.Combined.{Combined}
use Rattle.definitions.specs.Answers.{output_after, written_of}
use Rattle.definitions.specs.Checked.{Checked, accepted, refused}
use Rattle.definitions.specs.CombinedList.{Texts, combined_list}
use Rattle.laws.proofs.Checked.{accepted_same, not_refused}

module _ {t : Texts} {scratch scratch' out out' : List ℕ} {n : ℕ} (c : Combined t scratch scratch' out out' (Ok n)) where
  abbrev answer : Checked (List ℕ)
  answer = combined_list t (length scratch) (length out)

  as_long : {list : List ℕ} → answer ≡ accepted list → n ≡ length list
  unfolding written_of
  as_long e = accepted_same (c.answer ∙ ap written_of e)

  written : (a : Checked (List ℕ)) → answer ≡ a → answer ≡ accepted (take n out')
  unfolding output_after written_of
  written (refused m) e = not_refused (sym (c.answer ∙ ap written_of e))
  written (accepted list) e =
      let output = c.output ∙ ap (λ (a : Checked (List ℕ)). output_after a out) e in
      e ∙ ap {B = Checked (List ℕ)} accepted (sym (rw output (take_at list (drop (length list) out) n (sym (as_long e)))))

  pub list_written : answer ≡ accepted (take n out')
  list_written = written answer refl

  -- all n of them
  pub written_long : n ≡ length (take n out')
  written_long = as_long list_written
