-- So many groups of a text, the first: what they read as, after those before.
use Prim.Native.Nat.{◌<◌, ◌≤◌, suc, ℕ}
use lib.ListN.{drop, length, take}
use lib.Seq.{take-nil}
use mathlib.Core.List.{List, [], ◌∷◌}
use mathlib.Core.Path.{◌≡◌, refl, sym}
use native.Mathlib.Omega.{arith}
use Rattle.definitions.specs.Checked.{Checked, ◌>>=◌, accepted, read_each, refused}
use Rattle.definitions.specs.Lines.{Line, lines_of}
use Rattle.definitions.specs.Lists.{groups_from, groups_of}
use Rattle.kv_text.proofs.Groups.{group_refused}
use Rattle.kv_text.specs.Lines.{Behind}
use Rattle.laws.proofs.Checked.{not_refused}
use Rattle.laws.proofs.Groups.{groups_cons}
use Rattle.laws.proofs.Lines.{lines_end}

-- a text that goes on has a line: one that is refused whatever its groups say
pub some_lines : (s : List ℕ) (at : ℕ) → at < length s → 0 < length (lines_of (drop at s))
unfolding read_each groups_of groups_from
some_lines s at h = go (lines_of (drop at s)) (group_refused 1 (omega arith) (λ (before : List ℕ) group. refused 1) [] s at 1 h refl)
  where
    go : {L : Type 0} (l : List L) → ◌≡◌ {A = Checked (List ℕ)} (read_each (λ before group. refused 1) [] (groups_of 1 l)) (refused 1) → 0 < length l
    go [] e = not_refused (sym e)
    go (x ∷ l) e = omega arith

module _ {A : Type 0} (size : ℕ) (some_size : 0 < size) (read : List A → List Line → Checked A) (before : List A) (s : List ℕ) (at : ℕ) where
  abbrev first_of : ℕ → Checked (List A)
  first_of m = read_each read before (take m (groups_of size (lines_of (drop at s))))

  first_group : at < length s
      → groups_of size (lines_of (drop at s)) ≡ take size (lines_of (drop at s)) ∷ groups_of size (drop size (lines_of (drop at s)))
  first_group h = groups_cons size (lines_of (drop at s)) some_size (some_lines s at h)

  pub some_refused : (n m : ℕ) → at < length s → read before (take size (lines_of (drop at s))) ≡ refused n → first_of (suc m) ≡ refused n
  unfolding read_each ◌>>=◌
  some_refused n m h r = rw (first_group h, r)

  pub some_accepted : (a : A) (next m : ℕ) → at < length s → Behind s at size next
      → read before (take size (lines_of (drop at s))) ≡ accepted a
      → first_of (suc m) ≡ (read_each read (a ∷ before) (take m (groups_of size (lines_of (drop next s)))) >>= λ rest. accepted (a ∷ rest))
  unfolding read_each ◌>>=◌
  some_accepted a next m h b r = rw (first_group h, r, b.lines)

  pub none_left : (m : ℕ) → length s ≤ at → first_of m ≡ accepted []
  unfolding read_each groups_of groups_from
  none_left m h = rw (lines_end s at h, take-nil)
