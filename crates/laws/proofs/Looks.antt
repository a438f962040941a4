-- The looks along a contig: at most its intervals in the clip times its sites (`looks_bounded`), and refused as the list is, but for
-- row 14 (`looks_refused`, `list_refused`).
use Prim.Native.Nat.{◌*◌, ◌≤◌, ℕ}
use lib.ListN.{length}
use mathlib.Core.List.{List}
use mathlib.Core.Logic.{◌≢◌}
use mathlib.Core.Path.{◌≡◌, refl, sym}
use native.Mathlib.Omega.{arith}
use Rattle.definitions.specs.Checked.{Checked, ◌>>◌, accepted, refused}
use Rattle.definitions.specs.CombinedList.{Input, Texts, combined_list, combined_records, input_of, list_of}
use Rattle.definitions.specs.Intervals.{clipped_intervals, sites_on}
use Rattle.definitions.specs.Looks.{contig_looks, looks_of}
use Rattle.laws.proofs.Checked.{not_refused, refused_back, then, then_refused, within_refused}
use Rattle.laws.proofs.RefusalNumbers.{ByRow, ill, list_numbered, numbered, well}

pub looks_bounded : (x : Input) (contig : List ℕ)
    → contig_looks x contig ≤ length (clipped_intervals x.cohort.sites x.clip contig) * length (sites_on contig x.cohort.sites)
unfolding contig_looks
looks_bounded x contig = omega arith

module _ (t : Texts) (places : ℕ) (contig : List ℕ) where
  -- what refuses the looks refuses the list, whatever its room
  pub looks_refused : (room n : ℕ) → looks_of t places contig ≡ refused n → combined_list t places room ≡ refused n
  unfolding looks_of combined_list list_of ◌>>◌
  looks_refused room n e =
      refused_back (input_of t) _ e (λ p. then_refused (input_of t) _ p) λ x p e.
      refused_back (combined_records x places) _ e
      (λ q. then (input_of t) _ p (then_refused _ _ (then_refused (combined_records x places) _ q)))
      (λ rs q e. not_refused (sym e))

  -- what refuses the list refuses the looks, but for row 14
  pub list_refused : (room n : ℕ) → combined_list t places room ≡ refused n → n ≢ 14 → looks_of t places contig ≡ refused n
  unfolding looks_of combined_list list_of ◌>>◌
  list_refused room n e h =
      refused_back (input_of t) _ e (λ p. then_refused (input_of t) _ p) λ x p e.
      refused_back _ _ e
      (λ e. refused_back (combined_records x places) _ e (λ q. then (input_of t) _ p (then_refused (combined_records x places) _ q))
      (λ rs q e. not_refused (sym e)))
      (λ list q e. absurd (h (within_refused room list e)))

  -- so a row from 1 to 15 refuses them
  pub looks_numbered : ByRow (looks_of t places contig)
  looks_numbered = go (looks_of t places contig) refl
    where
      go : (c : Checked ℕ) → looks_of t places contig ≡ c → ByRow c
      go (accepted figure) e = well figure
      go (refused n) e = ill n (numbered (list_numbered t places 0) n (looks_refused 0 n e))
