-- Ascending numbers in windows: those past a position and below a limit. Past the last of them the next window begins (`windows`),
-- and the intervals are those of one window after the other (`intervals_by_windows`).
use Prim.Native.Nat.{◌-◌, ◌<◌, ◌≤◌, ℕ}
use borrow.Author.Tests.{le-leb, le-ltb, leb-false, leb-true, lt-leb, lt-ltb, ltb-true}
use lib.Dec.{leb, ltb}
use lib.ListN.{length, length-append}
use mathlib.Core.Bool.{Bool, ◌&&◌, false, true}
use mathlib.Core.List.Memᴰ
use mathlib.Core.List.{List, [], ◌++◌, ◌∷◌}
use mathlib.Core.Logic.{⊎_elim}
use mathlib.Core.Path.{◌∙◌, ◌≡◌, ap, refl, sym}
use native.Mathlib.Omega.{arith}
use Rattle.definitions.specs.Intervals.{Interval, intervals_between}
use Rattle.definitions.specs.Lists.{filter_by}
use Rattle.laws.proofs.Every.{Every, Pairwise, alone, also, before_all, every_map, every_member, filter_passes, pairwise_filter, pairwise_head, pairwise_tail}
use Rattle.laws.proofs.Members.{◌∈◌, cons_cases, filter_all, filter_both, filter_member, filter_no, filter_none, filter_same, filter_within, filter_yes, member_filter, member_some}
use Rattle.laws.proofs.Tests.{bool_ext, both, both_of}

-- a number past a position and below a limit
abbrev pub within : ℕ → ℕ → ℕ → Bool
within past limit b = ltb past b && ltb b limit

-- all of them
unfoldable pub window : ℕ → ℕ → List ℕ → List ℕ
window past limit = filter_by (within past limit)

-- the last of a window, or the position that it begins past if it is empty
unfoldable pub window_end : ℕ → List ℕ → ℕ
window_end past [] = past
window_end past (b ∷ w) = window_end b w

-- ---- ascending numbers

-- past the first of them stand the others
pub past_first : (b : ℕ) (l : List ℕ) → Pairwise ◌<◌ (b ∷ l) → filter_by (ltb b) (b ∷ l) ≡ l
past_first b l (before_all h hs) =
    filter_no (ltb b) b l (le-ltb b b (omega arith)) ∙ filter_all (ltb b) l (λ a m. lt-ltb b a (every_member m h))

-- those below a limit, and then those from it on
split_below : (limit : ℕ) {l : List ℕ} → Pairwise ◌<◌ l → l ≡ filter_by (λ b. ltb b limit) l ++ filter_by (leb limit) l
split_below limit alone = unfold filter_by in refl
split_below limit (before_all {x = x} {xs = xs} h hs) = go (leb limit x) refl (split_below limit hs)
  where
    below : List ℕ → List ℕ
    below = filter_by (λ b. ltb b limit)

    from : (b : ℕ) → x ≤ b → limit ≤ x → (ltb b limit ≡ false) × (leb limit b ≡ true)
    from b h k = (le-ltb b limit (omega arith), le-leb limit b (omega arith))

    all_from : Every (λ b. x ≤ b) (x ∷ xs)
    all_from = let x-x : x ≤ x = omega arith in also x-x (every_map (λ b k. omega arith) h)

    go : (c : Bool) → leb limit x ≡ c → xs ≡ below xs ++ filter_by (leb limit) xs
        → x ∷ xs ≡ below (x ∷ xs) ++ filter_by (leb limit) (x ∷ xs)
    go true e r =
        let k = leb-true limit x e in
        rw (filter_none (λ b. ltb b limit) (x ∷ xs) (λ b m. (from b (every_member m all_from) k).0))
        (sym (filter_all (leb limit) (x ∷ xs) (λ b m. (from b (every_member m all_from) k).1)))
    go false e r =
        rw (filter_yes (λ b. ltb b limit) x xs (lt-ltb x limit (leb-false limit x e)), filter_no (leb limit) x xs e)
        (ap (λ (l : List ℕ). x ∷ l) r)

-- ---- one window after the other

intervals_append : (past : ℕ) (w rest : List ℕ)
    → intervals_between (past ∷ w ++ rest) ≡ intervals_between (past ∷ w) ++ intervals_between (window_end past w ∷ rest)
unfolding intervals_between window_end
intervals_append past [] rest = refl
intervals_append past (b ∷ w) rest =
    ap (λ (l : List Interval). record { first = past; last = b - 1 } ∷ l) (intervals_append b w rest)

module _ {all : List ℕ} (ordered : Pairwise ◌<◌ all) where
  later : (past : ℕ) → Pairwise ◌<◌ (past ∷ filter_by (ltb past) all)
  later past =
      before_all (every_map (λ a e. ltb-true past a e) (filter_passes (ltb past) all)) (pairwise_filter (ltb past) ordered)

  -- the next number past a position is past it
  pub next_later : (past b : ℕ) (l : List ℕ) → filter_by (ltb past) all ≡ b ∷ l → past < b
  next_later past b l e =
      let first : b ∈ filter_by (ltb past) all = rw e (Memᴰ.head refl) in
      ltb-true past b (member_filter (ltb past) all first).1

  -- no number is between the position and the next
  pub next_least : (past b : ℕ) (l : List ℕ) → filter_by (ltb past) all ≡ b ∷ l → {a : ℕ} → a ∈ all → past < a → b ≤ a
  next_least past b l e {a} m h =
      let n : a ∈ b ∷ l = rw e at (filter_member (ltb past) all m (lt-ltb past a h)) in
      let behind : Every (λ c. b < c) l = pairwise_head (rw e at (pairwise_tail (later past))) in
      cons_cases n (λ q. omega arith) (λ n. let k = every_member n behind in omega arith)

  -- behind it stand the numbers past it
  pub next_past : (past b : ℕ) (l : List ℕ) → filter_by (ltb past) all ≡ b ∷ l → l ≡ filter_by (ltb b) all
  next_past past b l e =
      let k = next_later past b l e in
      sym (past_first b l (rw e at (pairwise_tail (later past)))) ∙ ap (filter_by (ltb b)) (sym e)
      ∙ filter_within (ltb b) (ltb past) all (λ a q. lt-ltb past a (omega (arith, ltb-true b a q)))

  -- whatever of the numbers past a position comes first: behind it stand the numbers past the last of it
  pub window_behind : (past : ℕ) (w rest : List ℕ) → filter_by (ltb past) all ≡ w ++ rest
      → rest ≡ filter_by (ltb (window_end past w)) all
  unfolding window_end
  window_behind past [] rest e = sym e
  window_behind past (b ∷ w) rest e = window_behind b w rest (sym (next_past past b (w ++ rest) e))

  end_from_lem : (past : ℕ) (w rest : List ℕ) → filter_by (ltb past) all ≡ w ++ rest → past ≤ window_end past w
  unfolding window_end
  end_from_lem past [] rest e = omega arith
  end_from_lem past (b ∷ w) rest e =
      omega (arith, next_later past b (w ++ rest) e, end_from_lem b w rest (sym (next_past past b (w ++ rest) e)))

  module _ (past limit : ℕ) where
    split : filter_by (ltb past) all ≡ window past limit all ++ filter_by (leb limit) (filter_by (ltb past) all)
    unfolding window
    split =
        split_below limit (pairwise_filter (ltb past) ordered)
        ∙ ap (λ (w : List ℕ). w ++ filter_by (leb limit) (filter_by (ltb past) all)) (sym (filter_both (ltb past) (λ b. ltb b limit) all))

    -- the numbers past a position are a window and those past its end
    pub windows : filter_by (ltb past) all ≡ window past limit all ++ filter_by (ltb (window_end past (window past limit all))) all
    windows = split ∙ ap (λ (l : List ℕ). window past limit all ++ l) (window_behind past (window past limit all) _ split)

    -- the intervals past a position are those of a window and those past its end
    pub intervals_by_windows :
        let end = window_end past (window past limit all) in
        intervals_between (past ∷ filter_by (ltb past) all)
        ≡ intervals_between (past ∷ window past limit all) ++ intervals_between (end ∷ filter_by (ltb end) all)
    intervals_by_windows =
        ap (λ (l : List ℕ). intervals_between (past ∷ l)) windows ∙ intervals_append past (window past limit all) _

    -- a window that holds a number ends past where it began
    pub window_ends_later : 0 < length (window past limit all) → past < window_end past (window past limit all)
    unfolding window_end
    window_ends_later h = go (window past limit all) _ h windows
      where
        go : (w rest : List ℕ) → 0 < length w → filter_by (ltb past) all ≡ w ++ rest → past < window_end past w
        go [] rest h e = absurd (omega arith)
        go (b ∷ w) rest h e =
            omega (arith, next_later past b (w ++ rest) e, end_from_lem b w rest (sym (next_past past b (w ++ rest) e)))

    -- where a window holds a number, there is one past the position
    pub window_some : 0 < length (window past limit all) → 0 < length (filter_by (ltb past) all)
    window_some h =
        let end = window_end past (window past limit all) in
        rw windows (omega (arith, length-append (window past limit all) (filter_by (ltb end) all)))

    -- with a limit past all numbers, a window holds all past the position
    pub whole_window : Every (λ b. b < limit) all → window past limit all ≡ filter_by (ltb past) all
    unfolding window
    whole_window h =
        filter_same _ (ltb past) all (λ b m. bool_ext _ _
        (λ e. (both_of (ltb past b) (ltb b limit) e).0) (λ e. both e (lt-ltb b limit (every_member m h))))

    -- and nothing stands behind it
    pub last_window : Every (λ b. b < limit) all → filter_by (ltb (window_end past (window past limit all))) all ≡ []
    last_window h =
        sym (window_behind past (window past limit all) _ split)
        ∙ filter_none (leb limit) _ (λ b m. lt-leb limit b (every_member (member_filter (ltb past) all m).0 h))

    -- with a limit that is itself one of them, something does
    pub limit_behind : limit ∈ all → past < limit
        → ltb 0 (length (filter_by (ltb (window_end past (window past limit all))) all)) ≡ true
    unfolding window
    limit_behind m h =
        let behind = filter_by (ltb (window_end past (window past limit all))) all in
        let there : limit ∈ window past limit all ++ behind = rw windows at (filter_member (ltb past) all m (lt-ltb past limit h)) in
        member_some behind (⊎_elim
        (λ (n : limit ∈ window past limit all).
        let in-limit = (both_of (ltb past limit) (ltb limit limit) (member_filter _ all n).1).1 in
        absurd (omega (arith, ltb-true limit limit in-limit)))
        (λ (n : limit ∈ behind). n) (Memᴰ.append_cases (window past limit all) there))

    -- the first of a window is the next number, and what stands behind it is the window past that
    pub window_step : (b : ℕ) (w : List ℕ) → window past limit all ≡ b ∷ w
        → (filter_by (ltb past) all ≡ b ∷ filter_by (ltb b) all) × (w ≡ window b limit all)
    unfolding window
    window_step b w e =
        let below : ℕ → Bool = λ b. ltb b limit in
        let rest = filter_by (leb limit) (filter_by (ltb past) all) in
        let found : filter_by (ltb past) all ≡ b ∷ (w ++ rest) = split ∙ ap (λ (w : List ℕ). w ++ rest) e in
        let next : filter_by (ltb past) all ≡ b ∷ filter_by (ltb b) all =
        found ∙ ap (λ (l : List ℕ). b ∷ l) (next_past past b (w ++ rest) found) in
        let first : b ∈ window past limit all = rw e (Memᴰ.head refl) in
        let in-limit = (both_of (ltb past b) (ltb b limit) (member_filter _ all first).1).1 in
        let again : b ∷ w ≡ b ∷ window b limit all =
        sym e ∙ filter_both (ltb past) below all ∙ ap (filter_by below) next ∙ filter_yes below b _ in-limit
        ∙ ap (λ (l : List ℕ). b ∷ l) (sym (filter_both (ltb b) below all)) in
        (next, cc)
