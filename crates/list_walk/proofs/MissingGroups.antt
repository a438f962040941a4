-- Groups that must be so many: a missing one is read as a group without lines.
use Prim.Native.Nat.{◌-◌, ◌<◌, suc, ℕ}
use borrow.Author.Tests.{le-ltb, lt-ltb}
use lib.ListN.{drop, length, take}
use lib.Seq.{take-nil}
use mathlib.Core.List.{List, [], ◌∷◌}
use mathlib.Core.Path.{◌≡◌}
use native.Mathlib.Decide.{dec_lt}
use native.Mathlib.Omega.{arith}
use Rattle.definitions.specs.Checked.{Checked, ◌>>=◌, accepted, read_each, refused}
use Rattle.definitions.specs.ListReader.{with_missing}
use Rattle.definitions.specs.Lists.{groups_from, groups_of}
use Rattle.laws.proofs.Groups.{groups_cons}

module _ {L : Type 0} where
  -- one less is missing behind the first
  pub missing_next : (k : ℕ) (g : List L) (gs : List (List L)) → 0 < k → with_missing k (g ∷ gs) ≡ g ∷ with_missing (k - 1) gs
  unfolding with_missing
  missing_next k g gs some = go (dec_lt (suc (length gs)) k)
    where
      go : Dec (suc (length gs) < k) → with_missing k (g ∷ gs) ≡ g ∷ with_missing (k - 1) gs
      go (yes h) = rw (lt-ltb (suc (length gs)) k h, lt-ltb (length gs) (k - 1) (omega arith))
      go (no h) = rw (le-ltb (suc (length gs)) k (omega arith), le-ltb (length gs) (k - 1) (omega arith))

  module _ {A : Type 0} (size : ℕ) (some_size : 0 < size) (read : List A → List L → Checked A) (before : List A) where
    -- what the groups of these lines read as, if there must be k
    abbrev pub AllOf : ℕ → List L → Checked (List A)
    AllOf k l = read_each read before (with_missing k (groups_of size l))

    -- the first group is refused, be it missing
    pub all_refused : (k : ℕ) (l : List L) {row : ℕ} → 0 < k → read before (take size l) ≡ refused row → AllOf k l ≡ refused row
    unfolding with_missing read_each groups_of groups_from ◌>>=◌
    all_refused k [] some e = rw (lt-ltb 0 k some, rw take-nil at e)
    all_refused k (x ∷ l) some e = rw (groups_cons size (x ∷ l) some_size (omega arith), e)

    -- a group that need not be there
    pub more_refused : (k : ℕ) (l : List L) {row : ℕ} → 0 < length l → read before (take size l) ≡ refused row → AllOf k l ≡ refused row
    unfolding with_missing read_each ◌>>=◌
    more_refused k l some e = rw (groups_cons size l some_size some, e)

    -- the first group is accepted
    pub all_accepted : (k : ℕ) (l : List L) {a : A} → 0 < k → 0 < length l → read before (take size l) ≡ accepted a
        → AllOf k l ≡ (read_each read (a ∷ before) (with_missing (k - 1) (groups_of size (drop size l))) >>= λ rest. accepted (a ∷ rest))
    unfolding read_each ◌>>=◌
    all_accepted k l more some e = rw (groups_cons size l some_size some, missing_next k _ _ more, e)

    -- no group is there, and none is missing
    pub all_ended : (l : List L) → l ≡ [] → AllOf 0 l ≡ accepted []
    unfolding with_missing read_each groups_of groups_from
    all_ended l e = rw e
