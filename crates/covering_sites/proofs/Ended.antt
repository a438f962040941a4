-- Sites that ended before a position: how the search moves past them, and that the last covering site is behind them.
use Prim.Native.Nat.{◌+◌, ◌-◌, ◌<◌, ◌≤◌, max, suc, zero, ℕ}
use borrow.Author.Tests.{ltb-false, ltb-true}
use lib.Dec.{ltb}
use lib.ListN.{drop, get_or, length, length-append, length-drop, length-set, length-take, set, take}
use lib.Seq.{get_or-drop, get_or-set_other, get_or-set_same, get_or-take}
use mathlib.Core.Bool.{Bool, cond, false, true}
use mathlib.Core.List.{List, [], ◌++◌, ◌∷◌}
use mathlib.Core.Logic.{⊎_elim}
use mathlib.Core.Option.{none}
use mathlib.Core.Path.{◌∙◌, ◌≡◌, ap, refl, sym}
use native.Mathlib.Decide.{dec_lt}
use native.Mathlib.Nat.{add-zero, eq-or-lt_of_le, min-eq_left}
use native.Mathlib.Omega.{arith}
use Rattle.std.proofs.lemmas.List.{get_or-append_right, get_or_append_left}
use Rattle.kv_text.specs.Fields.{between}
use Rattle.laws.proofs.Tests.{true_or_false}
use Rattle.tables.specs.Tables.{column}
use Rattle.covering_sites.proofs.Search.{ended_before, part_at, part_at_lem, part_end, part_length, part_next, search_skip}
use Rattle.covering_sites.specs.Covering.{RunAscends, StartsAscend, last_covering, row_covers}
use Rattle.covering_sites.specs.Ended.{Ended, Replaced, behind_ended, ended_front, row_ended}
use Rattle.covering_sites.specs.Runs.{Bounded, run_at}

-- ---- numbers replaced one by one

module _ {before : List ℕ} {f : ℕ → ℕ} where
  pub replaced_start : Replaced before before 0 f
  replaced_start = record { same_length = refl; new = λ x h. absurd (omega arith); others = λ x h. refl }

  pub replaced_next : {after : List ℕ} {n v : ℕ} → Replaced before after n f → n < length before → v ≡ f n → Replaced before (set after n v) (n + 1) f
  replaced_next {after} {n} {v} r h e = record {
    same_length = length-set after n v ∙ r.same_length;
    new = λ x l. ⊎_elim
        (λ same. rw same (get_or-set_same after n v 0 (omega (arith, r.same_length)) ∙ e))
        (λ less. get_or-set_other after n x v 0 (λ same. omega arith) ∙ r.new x less)
        (eq-or-lt_of_le (below x l));
    others = λ x l. get_or-set_other after n x v 0 (λ same. omega arith) ∙ r.others x (omega arith);
  }
    where
      below : (x : ℕ) → x < n + 1 → x ≤ n
      below x l = omega arith

-- the front replaced by that of another list
pub replaced_front : (before source : List ℕ) {front : List ℕ} {n : ℕ} → n ≤ length source → n ≤ length before → front ≡ take n source
    → Replaced before (front ++ drop n before) n (λ x. get_or source x 0)
replaced_front before source {front} {n} h k e =
    let long : length front ≡ n = ap length e ∙ length-take n source ∙ min-eq_left h in
    record {
      same_length = omega (arith, length-append front (drop n before), length-drop n before);
      new = λ x l. get_or_append_left front (drop n before) 0 x (omega arith) ∙ rw e (get_or-take n source x 0 l);
      others = λ x l.
          get_or-append_right front (drop n before) n x 0 long l
          ∙ get_or-drop n before (x - n) 0 ∙ ap (λ (j : ℕ). get_or before j 0) (let z : n + (x - n) ≡ x = omega arith in z);
    }

-- ---- the front of a run

module _ (rows : List ℕ) (position : ℕ) where
  front_few : (l : List ℕ) → ended_front rows position l ≤ length l
  unfolding ended_front
  front_few [] = omega arith
  front_few (i ∷ l) = go (row_ended rows position i) (front_few l)
    where
      go : (b : Bool) → ended_front rows position l ≤ length l → cond b (suc (ended_front rows position l)) 0 ≤ suc (length l)
      go true h = omega arith
      go false h = omega arith

  front_ended : (l : List ℕ) (j : ℕ) → j < ended_front rows position l → column 3 rows (get_or l j 0) < position
  unfolding ended_front row_ended
  front_ended [] j h = absurd (omega arith)
  front_ended (i ∷ l) j h = go (row_ended rows position i) refl j h (front_ended l)
    where
      go : (b : Bool) → row_ended rows position i ≡ b → (j : ℕ) → j < cond b (suc (ended_front rows position l)) 0
          → ((j : ℕ) → j < ended_front rows position l → column 3 rows (get_or l j 0) < position) → column 3 rows (get_or (i ∷ l) j 0) < position
      go true e zero h r = ltb-true _ _ e
      go true e (suc j) h r = r j (omega arith)
      go false e j h r = absurd (omega arith)

  module _ (chosen : List ℕ) (to : ℕ) where
    -- what is left to skip, site by site
    pub skip_one : {i : ℕ} → i < to → to ≤ length chosen → row_ended rows position (get_or chosen i 0) ≡ true
        → behind_ended rows chosen position (i + 1) to ≡ behind_ended rows chosen position i to
    unfolding behind_ended ended_front
    skip_one {i} h k e = rw (part_next chosen i to h k, e) (omega arith)

    pub skip_stop : {i : ℕ} → i < to → to ≤ length chosen → row_ended rows position (get_or chosen i 0) ≡ false → i ≡ behind_ended rows chosen position i to
    unfolding behind_ended ended_front
    skip_stop {i} h k e = rw (part_next chosen i to h k, e) (sym (add-zero i))

    pub skip_end : {i : ℕ} → to ≤ i → i ≡ behind_ended rows chosen position i to
    unfolding behind_ended ended_front
    skip_end {i} h = rw (part_end chosen i to h) (sym (add-zero i))

    -- behind the last of them, or where the search began, if that is behind the run
    pub skip_all : {start i r : ℕ} → to ≤ i → (start ≤ to → i ≤ to)
        → behind_ended rows chosen position i to ≡ behind_ended rows chosen position start to → r ≡ max start to
        → r ≡ behind_ended rows chosen position start to
    skip_all {start} {i} {r} h k e m = go (dec_lt to start)
      where
        go : Dec (to < start) → r ≡ behind_ended rows chosen position start to
        go (yes l) = let z : r ≡ start = omega (arith, m) in rw z (skip_end {i = start} (omega arith))
        go (no l) =
            let z : r ≡ to = omega (arith, m) in
            let y : i ≡ to = omega arith in
            z ∙ skip_end {i = to} (omega arith) ∙ rw y at e

    behind_within : (start : ℕ) → start ≤ to → behind_ended rows chosen position start to ≤ to
    unfolding behind_ended
    behind_within start h = omega (arith, front_few (between chosen start to), length-take (to - start) (drop start chosen))

    behind_above : (start : ℕ) → start ≤ behind_ended rows chosen position start to
    unfolding behind_ended
    behind_above start = omega arith

    behind_ended_lem : (start k : ℕ) → start ≤ k → k < behind_ended rows chosen position start to → column 3 rows (get_or chosen k 0) < position
    unfolding behind_ended
    behind_ended_lem start k h l =
        let j : k - start < ended_front rows position (between chosen start to) = omega arith in
        let few : k - start < to - start = omega (arith, front_few (between chosen start to), length-take (to - start) (drop start chosen)) in
        rw (part_at_lem chosen start to k h (omega arith)) at (front_ended (between chosen start to) (k - start) j)

-- ---- all runs

module _ {rows chosen bounds : List ℕ} {samples position : ℕ} where
  -- each search begins where the run does
  pub ended_start : {from₀ from : List ℕ} → Bounded (length chosen) bounds samples → samples ≤ length from₀ → Replaced from₀ from samples (λ x. get_or bounds x 0)
      → Ended rows chosen bounds from samples position
  ended_start b h r = record {
    long = omega (arith, r.same_length);
    above = λ x l. omega (arith, r.new x l);
    within = λ x l. omega (arith, r.new x l, b.up x l);
    ended = λ x l k a z. absurd (omega (arith, r.new x l));
  }

  -- the search moves on
  pub ended_skipped : {from₀ from : List ℕ} → Ended rows chosen bounds from₀ samples position
      → Replaced from₀ from samples (λ x. behind_ended rows chosen position (get_or from₀ x 0) (get_or bounds (x + 1) 0))
      → Ended rows chosen bounds from samples position
  ended_skipped {from₀} {from} e r = record {
    long = omega (arith, e.long, r.same_length);
    above = λ x l. omega (arith, r.new x l, e.above x l, behind_above rows position chosen (get_or bounds (x + 1) 0) (get_or from₀ x 0));
    within = λ x l. omega (arith, r.new x l, behind_within rows position chosen (get_or bounds (x + 1) 0) (get_or from₀ x 0) (e.within x l));
    ended = λ x l k a z. ⊎_elim
        (λ less. e.ended x l k a (ltb-true k (get_or from₀ x 0) less))
        (λ more. behind_ended_lem rows position chosen (get_or bounds (x + 1) 0) (get_or from₀ x 0) k (ltb-false k (get_or from₀ x 0) more) (omega (arith, r.new x l)))
        (true_or_false (ltb k (get_or from₀ x 0)));
  }

  -- what ended before a position ended before a later one
  pub ended_later : {from : List ℕ} {later : ℕ} → position ≤ later → Ended rows chosen bounds from samples position → Ended rows chosen bounds from samples later
  ended_later h e = record {
    long = e.long;
    above = e.above;
    within = e.within;
    ended = λ x l k a z. omega (arith, e.ended x l k a z);
  }

-- ---- the last covering site

-- the search begins behind sites that ended: none of them covers the position
pub search_start : {rows chosen bounds from : List ℕ} {samples position : ℕ} → Ended rows chosen bounds from samples position
    → Bounded (length chosen) bounds samples → (x : ℕ) → x < samples
    → last_covering rows position (between chosen (get_or from x 0) (get_or bounds (x + 1) 0)) ≡ last_covering rows position (run_at chosen bounds x)
unfolding last_covering run_at
search_start {rows} {chosen} {bounds} {from} {samples} {position} e b x l =
    let above = e.above x l in
    let within = e.within x l in
    let to = get_or bounds (x + 1) 0 in
    let there : get_or bounds x 0 + (get_or from x 0 - get_or bounds x 0) ≡ get_or from x 0 = omega arith in
    sym (rw there at (search_skip (row_covers rows position) chosen to (b.within x l) none (get_or from x 0 - get_or bounds x 0) (get_or bounds x 0)
    (omega arith) (λ k a z. ended_before rows position (get_or chosen k 0) (e.ended x l k a (omega arith)))))

-- and starts ascend from there on
pub search_ascends : {rows chosen bounds from : List ℕ} {samples position : ℕ} → Ended rows chosen bounds from samples position
    → Bounded (length chosen) bounds samples → StartsAscend rows chosen bounds samples → (x : ℕ) → x < samples
    → RunAscends rows (between chosen (get_or from x 0) (get_or bounds (x + 1) 0))
search_ascends {rows} {chosen} {bounds} {from} e b s x l =
    let start = get_or from x 0 in
    let to = get_or bounds (x + 1) 0 in
    let long = part_length chosen start to (b.within x l) in
    record {
      ascend = λ j k up below.
          rw (part_at chosen start to j (omega arith), part_at chosen start to k (omega arith))
          (s.ascend x l (start + j) (start + k) (omega (arith, e.above x l)) (omega arith) (omega arith));
    }
