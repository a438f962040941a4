-- The groups of a text from an offset on: what check_clip and check_reference know in their loops, and what their callers know behind them.
use Prim.Native.Nat.{◌<◌, ◌≤◌, ℕ}
use lib.ListN.{drop, length, take}
use mathlib.Core.Bool.{false, true}
use mathlib.Core.List.{List, [], ◌∷◌}
use mathlib.Core.Option.{some}
use mathlib.Core.Path.{◌∙◌, ◌≡◌, ap, refl, sym}
use native.Mathlib.Decide.{dec_lt}
use native.Mathlib.Omega.{arith}
use Rattle.definitions.specs.Checked.{Checked, ◌>>=◌, accepted, is_accepted, read_each, refused, refused_as}
use Rattle.definitions.specs.ClipAndReference.{optional_groups}
use Rattle.definitions.specs.Lines.{Line, lines_of}
use Rattle.definitions.specs.Lists.{groups_from, groups_of}
use Rattle.kv_text.proofs.Groups.{group_accepted, group_refused, groups_ended}
use Rattle.laws.proofs.Checked.{accepted_same, after_then, not_refused}
use Rattle.laws.proofs.Groups.{groups_cons}
use Rattle.laws.proofs.Lines.{lines_end}
use Rattle.laws.proofs.Tests.{clash}
use Rattle.clip_and_reference.specs.Groups.{GroupFaulty, GroupTo, GroupsFrom, groups_at, groups_read, in_front, read_before}

module _ {A : Type 0} (read : List Line → Checked A) where
  -- a group is read without those before it
  read_alone : (before : List A) (gs : List (List Line)) → read_each (λ _. read) before gs ≡ read_each (λ _. read) [] gs
  unfolding read_each ◌>>=◌
  read_alone before [] = refl
  read_alone before (g ∷ gs) = go (read g) λ a. read_alone (a ∷ before) gs ∙ sym (read_alone (a ∷ []) gs)
    where
      go : (c : Checked A) → ((a : A) → read_each (λ _. read) (a ∷ before) gs ≡ read_each (λ _. read) (a ∷ []) gs)
          → (c >>= λ a. read_each (λ _. read) (a ∷ before) gs >>= λ rest. accepted (a ∷ rest))
          ≡ (c >>= λ a. read_each (λ _. read) (a ∷ []) gs >>= λ rest. accepted (a ∷ rest))
      go (refused n) same = refl
      go (accepted a) same = rw (same a)

module _ {A : Type 0} (read : List Line → Checked A) (s : List ℕ) where
  at_faulty : (at : ℕ) (f : GroupFaulty s at read) → at < length s → groups_at read s at ≡ refused f.0
  unfolding groups_at
  at_faulty at f h = group_refused 3 (omega arith) (λ _. read) [] s at f.0 h f.1

  at_group : (at : ℕ) (a : A) (next : ℕ) → GroupTo s at read a next
      → groups_at read s at ≡ (groups_at read s next >>= λ rest. accepted (a ∷ rest))
  unfolding groups_at
  at_group at a next g =
      let h : at < length s = omega (arith, g.forward, g.within) in
      group_accepted 3 (omega arith) (λ _. read) [] s at a next h (record { lines = g.rest; forward = omega (arith, g.forward) }) g.value
      ∙ rw (read_alone read (a ∷ []) (groups_of 3 (lines_of (drop next s))))

  at_end : (at : ℕ) → length s ≤ at → groups_at read s at ≡ accepted []
  unfolding groups_at
  at_end at h = groups_ended 3 (omega arith) (λ _. read) [] s at h

-- ---- the loop of check_clip and check_reference

-- the whole text is accepted if its groups are, and groups with one more in front if they were
whole : {A : Type 0} (c : Checked (List A)) → is_accepted (refused_as 9 c >>= λ gs. accepted (some gs)) ≡ is_accepted c
unfolding is_accepted refused_as ◌>>=◌
whole (refused n) = refl
whole (accepted a) = refl

also : {A : Type 0} (c : Checked (List A)) (f : List A → List A) → is_accepted (c >>= λ rest. accepted (f rest)) ≡ is_accepted c
unfolding is_accepted ◌>>=◌
also (refused n) f = refl
also (accepted a) f = refl

module _ {A : Type 0} (read : List Line → Checked A) (s : List ℕ) where
  -- the text is in order if it is from here on
  pub record Left (at : ℕ) : Type 0 where
    pub same : is_accepted (groups_at read s at) ≡ is_accepted (optional_groups read (some s))

  pub left_start : Left 0
  unfolding optional_groups groups_at
  left_start = record { same = sym (whole (groups_at read s 0)) }

  module _ (at : ℕ) (left : Left at) where
    pub left_faulty : GroupFaulty s at read → at < length s → false ≡ is_accepted (optional_groups read (some s))
    unfolding is_accepted
    left_faulty f h = sym (ap is_accepted (at_faulty read s at f h)) ∙ left.same

    pub left_next : (a : A) (next : ℕ) → GroupTo s at read a next → Left next
    left_next a next g = record {
      same = sym (also (groups_at read s next) (λ rest. a ∷ rest)) ∙ sym (ap is_accepted (at_group read s at a next g)) ∙ left.same;
    }

    pub left_end : length s ≤ at → true ≡ is_accepted (optional_groups read (some s))
    unfolding is_accepted
    left_end h = sym (ap is_accepted (at_end read s at h)) ∙ left.same

-- ---- for callers

module _ {A : Type 0} (read : List Line → Checked A) (s : List ℕ) where
  -- A text in order has groups, which are those from offset 0 on. Any other is refused with 9.
  pub in_order_lem : is_accepted (optional_groups read (some s)) ≡ true
      → (groups : List A) × (optional_groups read (some s) ≡ accepted (some groups)) × GroupsFrom read s 0 groups
  unfolding optional_groups groups_at is_accepted refused_as ◌>>=◌
  in_order_lem h = go (groups_at read s 0) refl h
    where
      go : (c : Checked (List A)) → groups_at read s 0 ≡ c → is_accepted (refused_as 9 c >>= λ gs. accepted (some gs)) ≡ true
          → (groups : List A) × ((refused_as 9 c >>= λ gs. accepted (some gs)) ≡ accepted (some groups)) × GroupsFrom read s 0 groups
      go (refused n) e h = clash h refl
      go (accepted groups) e h = (groups, refl, record { all = e })

  pub not_in_order : is_accepted (optional_groups read (some s)) ≡ false → optional_groups read (some s) ≡ refused 9
  unfolding optional_groups groups_at is_accepted refused_as ◌>>=◌
  not_in_order h = go (groups_at read s 0) h
    where
      go : (c : Checked (List A)) → is_accepted (refused_as 9 c >>= λ gs. accepted (some gs)) ≡ false
          → (refused_as 9 c >>= λ gs. accepted (some gs)) ≡ refused 9
      go (refused n) h = refl
      go (accepted groups) h = clash {b = true} refl h

  module _ {at : ℕ} {groups : List A} (from : GroupsFrom read s at groups) where
    -- no group is faulty; the group at the offset is the first, and the others are those from the next offset on
    pub none_faulty : {R : Type 0} → at < length s → GroupFaulty s at read → R
    none_faulty h f = not_refused (sym (at_faulty read s at f h) ∙ from.all)

    pub first_group : (a : A) (next : ℕ) → GroupTo s at read a next → (rest : List A) × (groups ≡ a ∷ rest) × GroupsFrom read s next rest
    first_group a next g = after_then _ _ (sym (at_group read s at a next g) ∙ from.all) λ rest e same.
        (rest, sym (accepted_same same), record { all = e })

    pub no_more : length s ≤ at → groups ≡ []
    no_more h = sym (accepted_same (sym (at_end read s at h) ∙ from.all))

-- ---- the groups up to the first faulty one

module _ {A : Type 0} (read : List Line → Checked A) where
  -- all of them, if none is faulty
  read_before_lem : (gs : List (List Line)) (l : List A) → read_each (λ _. read) [] gs ≡ accepted l → read_before read gs ≡ l
  unfolding read_each read_before in_front ◌>>=◌
  read_before_lem [] l e = accepted_same e
  read_before_lem (g ∷ gs) l e = go (read g) e (λ rest. read_before_lem gs rest)
    where
      go : (c : Checked A) → (c >>= λ a. read_each (λ _. read) (a ∷ []) gs >>= λ rest. accepted (a ∷ rest)) ≡ accepted l
          → ((rest : List A) → read_each (λ _. read) [] gs ≡ accepted rest → read_before read gs ≡ rest)
          → in_front c (read_before read gs) ≡ l
      go (refused n) e later = not_refused e
      go (accepted a) e later = after_then _ _ e λ rest f same.
          ap (λ (r : List A). a ∷ r) (later rest (sym (read_alone read (a ∷ []) gs) ∙ f)) ∙ accepted_same same

module _ {A : Type 0} (read : List Line → Checked A) (s : List ℕ) where
  -- a text that goes on has a group
  some_group : (at : ℕ) → at < length s
      → groups_of 3 (lines_of (drop at s)) ≡ take 3 (lines_of (drop at s)) ∷ groups_of 3 (drop 3 (lines_of (drop at s)))
  unfolding read_each groups_of groups_from
  some_group at h = go (lines_of (drop at s)) (group_refused 3 (omega arith) (λ _ _. refused 0) [] s at 0 h refl)
    where
      go : (lines : List Line) → read_each {A = A} (λ _ _. refused 0) [] (groups_of 3 lines) ≡ refused 0
          → groups_of 3 lines ≡ take 3 lines ∷ groups_of 3 (drop 3 lines)
      go [] e = not_refused (sym e)
      go (x ∷ lines) e = groups_cons 3 (x ∷ lines) (omega arith) (omega arith)

  pub read_end : (at : ℕ) → length s ≤ at → groups_read read s at ≡ []
  unfolding groups_read read_before groups_of groups_from
  read_end at h = rw (lines_end s at h)

  pub read_group : {at : ℕ} {a : A} {next : ℕ} → GroupTo s at read a next → groups_read read s at ≡ a ∷ groups_read read s next
  unfolding groups_read read_before in_front
  read_group {at} g =
      let h : at < length s = omega (arith, g.forward, g.within) in
      rw (some_group at h, g.value, g.rest)

  pub read_faulty : (at : ℕ) → GroupFaulty s at read → groups_read read s at ≡ []
  unfolding groups_read read_before in_front
  read_faulty at f = go (dec_lt at (length s))
    where
      go : Dec (at < length s) → groups_read read s at ≡ []
      go (yes h) = rw (some_group at h, f.1)
      go (no h) = read_end at (omega arith)

  pub all_read : {at : ℕ} {groups : List A} → GroupsFrom read s at groups → groups_read read s at ≡ groups
  unfolding groups_read groups_at
  all_read {at} {groups} from = read_before_lem read (groups_of 3 (lines_of (drop at s))) groups from.all
