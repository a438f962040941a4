-- `one_step`: the least PL, how often it occurs and the next above it, taken along with one more PL. `gq_in_one_reading`: the GQ of all.
use Prim.Native.Nat.{◌<◌, ◌≤◌, min, suc, ℕ}
use borrow.Author.Tests.{eq-eqb, eqb-true, le-ltb, lt-ltb, ltb-true, ne_eqb}
use lib.Dec.{eqb, ltb}
use lib.ListN.{length, length-append}
use mathlib.Core.Bool.{Bool, cond, false, true}
use mathlib.Core.List.Memᴰ
use mathlib.Core.List.{List, [], ◌++◌, ◌∷◌, append-nil}
use mathlib.Core.Logic.{⊎_elim}
use mathlib.Core.Path.{◌∙◌, ◌≡◌, ap, refl, sym}
use native.Mathlib.Decide.{dec_lt, ℕ_discrete}
use native.Mathlib.Omega.{arith}
use Rattle.definitions.specs.CalledGenotypes.{LeastPls, gq_from_least_pls, gq_from_pl, least_pls, with_next_pl, without_first}
use Rattle.definitions.specs.Genotypes.{least}
use Rattle.definitions.specs.Lists.{filter_by}
use Rattle.laws.proofs.Genotypes.{least_in, least_is, least_le}
use Rattle.laws.proofs.Members.{◌∈◌, at_member, cons_cases, filter_all, filter_append, filter_member, filter_no, filter_none, filter_yes, member_filter}
use Rattle.laws.proofs.Tests.{or_right}

-- a list that has a number is not empty
some_there : (l : List ℕ) {m : ℕ} → m ∈ l → 0 < length l
some_there l h = let (k, below, at) = at_member l h in omega (arith, below)

-- a least above 0 is a number of the list
least_there : (l : List ℕ) → 0 < least l → least l ∈ l
least_there [] h = absurd (unfold least in omega arith)
least_there (x ∷ l) h = least_in (x ∷ l) (Memᴰ.head refl)

-- the least of a list that has it occurs
some_least : (l : List ℕ) → least l ∈ l → 0 < length (filter_by (eqb (least l)) l)
some_least l here = some_there _ (filter_member (eqb (least l)) l here (eq-eqb (least l) (least l) refl))

-- ---- one step, by where the next PL stands

-- the least PL, its count and the second
abbrev pub three : ℕ → ℕ → ℕ → LeastPls
three least count second = record { least_pl = least; count = count; second = second }

same_three : {a b c k m n : ℕ} → a ≡ k → b ≡ m → c ≡ n → three a b c ≡ three k m n
same_three e f g = rw (e, f, g)

module _ (a n b p : ℕ) where
  pub step_first : n ≡ 0 → with_next_pl (three a n b) p ≡ three p 1 a
  unfolding with_next_pl
  step_first e = rw (eq-eqb n 0 e)

  pub step_lower : p < a → with_next_pl (three a n b) p ≡ three p 1 a
  unfolding with_next_pl
  step_lower h = rw (or_right (eqb n 0) (lt-ltb p a h))

  pub step_again : 0 < n → p ≡ a → with_next_pl (three a n b) p ≡ three p (suc n) b
  unfolding with_next_pl
  step_again some e = rw (ne_eqb n 0 (λ q. omega arith), le-ltb p a (omega arith), eq-eqb p a e)

  pub step_higher : 0 < n → a < p → with_next_pl (three a n b) p ≡ three a n (cond (eqb b 0) p (min p b))
  unfolding with_next_pl
  step_higher some h = rw (ne_eqb n 0 (λ q. omega arith), le-ltb p a (omega arith), ne_eqb p a (λ q. omega arith))

-- PLs of which one is the least, and the next
module _ (l : List ℕ) (p : ℕ) (here : least l ∈ l) where
  abbrev all : List ℕ
  all = l ++ (p ∷ [])

  least_more : least all ≡ min p (least l)
  least_more = go (dec_lt p (least l))
    where
      below : (m : ℕ) → m ≤ p → m ≤ least l → (y : ℕ) → y ∈ all → m ≤ y
      below m h k y n = ⊎_elim
          (λ (a : y ∈ l). let z = least_le l a in omega arith)
          (λ (a : y ∈ p ∷ []). cons_cases a (λ q. omega arith) (λ b. absurd (Memᴰ.not-nil b)))
          (Memᴰ.append_cases l n)

      go : Dec (p < least l) → least all ≡ min p (least l)
      go (yes h) =
          let e = least_is all p (Memᴰ.append_right l (Memᴰ.head refl)) (below p (omega arith) (omega arith)) in
          omega arith
      go (no h) =
          let e = least_is all (least l) (Memᴰ.append_left (p ∷ []) here) (below (least l) (omega arith) (omega arith)) in
          omega arith

  -- what passes a test that the next one passes, or fails
  more_yes : (q : ℕ → Bool) → q p ≡ true → filter_by q all ≡ filter_by q l ++ (p ∷ [])
  unfolding filter_by
  more_yes q h = filter_append q l (p ∷ []) ∙ ap (λ (o : List ℕ). filter_by q l ++ o) (filter_yes q p [] h)

  more_no : (q : ℕ → Bool) → q p ≡ false → filter_by q all ≡ filter_by q l
  unfolding filter_by
  more_no q h =
      filter_append q l (p ∷ []) ∙ ap (λ (o : List ℕ). filter_by q l ++ o) (filter_no q p [] h) ∙ append-nil (filter_by q l)

  lower : p < least l → with_next_pl (least_pls l) p ≡ least_pls all
  unfolding least_pls
  lower h =
      let e : least all ≡ p = omega (arith, least_more) in
      let above : (y : ℕ) → y ∈ l → p < y = λ y m. let z = least_le l m in omega arith in
      let none-p = filter_none (eqb p) l (λ y m. let z = above y m in ne_eqb p y (λ q. omega arith)) in
      let all_above = filter_all (ltb p) l (λ y m. lt-ltb p y (above y m)) in
      step_lower _ _ _ p h
      ∙ rw e
      (same_three refl
      (ap length (sym (more_yes (eqb p) (eq-eqb p p refl) ∙ ap (λ (o : List ℕ). o ++ (p ∷ [])) none-p)))
      (ap least (sym (more_no (ltb p) (le-ltb p p (omega arith)) ∙ all_above))))

  again : p ≡ least l → with_next_pl (least_pls l) p ≡ least_pls all
  unfolding least_pls
  again h =
      let e : least all ≡ least l = omega (arith, least_more) in
      step_again _ _ _ p (some_least l here) h
      ∙ rw e
      (same_three h
      (omega (
        arith,
        length-append (filter_by (eqb (least l)) l) (p ∷ []),
        ap length (more_yes (eqb (least l)) (eq-eqb (least l) p (sym h))),
      ))
      (ap least (sym (more_no (ltb (least l)) (le-ltb (least l) p (omega arith))))))

-- the least of numbers above 0, of which there may be none, and of one more
next_above : (l : List ℕ) (p : ℕ) → ((y : ℕ) → y ∈ l → 0 < y)
    → cond (eqb (least l) 0) p (min p (least l)) ≡ least (l ++ (p ∷ []))
next_above [] p h = unfold least in refl
next_above (x ∷ l) p h =
    let here = least_in (x ∷ l) (Memᴰ.head refl) in
    let some-above = h (least (x ∷ l)) here in
    rw (ne_eqb (least (x ∷ l)) 0 (λ q. omega arith)) (sym (least_more (x ∷ l) p here))

higher : (l : List ℕ) (p : ℕ) → least l ∈ l → least l < p → with_next_pl (least_pls l) p ≡ least_pls (l ++ (p ∷ []))
unfolding least_pls
higher l p here h =
    let e : least (l ++ (p ∷ [])) ≡ least l = omega (arith, least_more l p here) in
    let m = least l in
    let above : (y : ℕ) → y ∈ filter_by (ltb m) l → 0 < y =
    λ y n. let z = ltb-true m y (member_filter (ltb m) l n).1 in omega arith in
    step_higher _ _ _ p (some_least l here) h
    ∙ rw e
    (same_three refl
    (ap length (sym (more_no l p here (eqb m) (ne_eqb m p (λ q. omega arith)))))
    (next_above (filter_by (ltb m) l) p above ∙ ap least (sym (more_yes l p here (ltb m) (lt-ltb m p h)))))

-- from the three over any first PLs, and the next PL, to the three over all of those
pub one_step : (ps : List ℕ) (p : ℕ) → with_next_pl (least_pls ps) p ≡ least_pls (ps ++ (p ∷ []))
unfolding with_next_pl least_pls filter_by least
one_step [] p = rw (eq-eqb p p refl, le-ltb p p (omega arith))
one_step (x ∷ xs) p = go (dec_lt p (least (x ∷ xs))) (ℕ_discrete p (least (x ∷ xs)))
  where
    here : least (x ∷ xs) ∈ x ∷ xs
    here = least_in (x ∷ xs) (Memᴰ.head refl)

    go : Dec (p < least (x ∷ xs)) → Dec (p ≡ least (x ∷ xs))
        → with_next_pl (least_pls (x ∷ xs)) p ≡ least_pls (x ∷ xs ++ (p ∷ []))
    go (yes h) d = lower (x ∷ xs) p here h
    go (no h) (yes e) = again (x ∷ xs) p here e
    go (no h) (no e) = higher (x ∷ xs) p here (omega arith)

-- where there is a second, it is above the least, and the least occurs
pub second_above : (ps : List ℕ) → 0 < (least_pls ps).second → (0 < (least_pls ps).count) × ((least_pls ps).least_pl < (least_pls ps).second)
unfolding least_pls
second_above ps h =
    let m = least ps in
    let there = member_filter (ltb m) ps (least_there (filter_by (ltb m) ps) h) in
    (some_least ps (least_in ps there.0), ltb-true m _ there.1)

-- ---- the GQ of the three

-- PLs at or above m
module _ (m : ℕ) where
  abbrev occurs : List ℕ → ℕ
  occurs l = length (filter_by (eqb m) l)

  above_all : (l : List ℕ) → ((y : ℕ) → y ∈ l → m ≤ y) → occurs l ≡ 0 → filter_by (ltb m) l ≡ l
  above_all l h none-m = filter_all (ltb m) l λ y n.
      let z = h y n in
      lt-ltb m y (apart (ℕ_discrete m y) n z)
    where
      apart : {y : ℕ} → Dec (m ≡ y) → y ∈ l → m ≤ y → m < y
      apart {y} (yes e) n z =
          absurd (let w = some_there _ (filter_member (eqb m) l n (eq-eqb m y e)) in omega arith)
      apart (no e) n z = omega arith

  without_once : (l : List ℕ) → ((y : ℕ) → y ∈ l → m ≤ y) → occurs l ≡ 1 → without_first m l ≡ filter_by (ltb m) l
  unfolding without_first
  without_once [] h once = absurd (unfold filter_by in omega arith)
  without_once (x ∷ l) h once = go (ℕ_discrete m x) (without_once l (λ y n. h y (Memᴰ.tail n)))
    where
      go : Dec (m ≡ x) → (occurs l ≡ 1 → without_first m l ≡ filter_by (ltb m) l)
          → cond (eqb m x) l (x ∷ without_first m l) ≡ filter_by (ltb m) (x ∷ l)
      go (yes e) below =
          let t = eq-eqb m x e in
          let rest : occurs l ≡ 0 = omega (arith, ap length (filter_yes (eqb m) x l t)) in
          rw t (sym (filter_no (ltb m) x l (le-ltb m x (omega arith)) ∙ above_all l (λ y n. h y (Memᴰ.tail n)) rest))
      go (no e) below =
          let t = ne_eqb m x e in
          let least-x = h x (Memᴰ.head refl) in
          let rest : occurs l ≡ 1 = omega (arith, ap length (filter_no (eqb m) x l t)) in
          rw t (ap (λ (o : List ℕ). x ∷ o) (below rest) ∙ sym (filter_yes (ltb m) x l (lt-ltb m x (omega arith))))

  without_more : (l : List ℕ) → 1 < occurs l → m ∈ without_first m l
  unfolding without_first
  without_more [] more = absurd (unfold filter_by in omega arith)
  without_more (x ∷ l) more = go (ℕ_discrete m x) (without_more l)
    where
      again_in : (k : List ℕ) → 0 < length k → ((y : ℕ) → y ∈ k → (y ∈ l) × (eqb m y ≡ true)) → m ∈ l
      again_in [] h f = absurd (omega arith)
      again_in (y ∷ k) h f =
          let w = f y (Memᴰ.head refl) in
          Memᴰ.cast (eqb-true m y w.1) w.0

      go : Dec (m ≡ x) → (1 < occurs l → m ∈ without_first m l) → m ∈ cond (eqb m x) l (x ∷ without_first m l)
      go (yes e) below =
          let t = eq-eqb m x e in
          rw t (again_in (filter_by (eqb m) l) (omega (arith, ap length (filter_yes (eqb m) x l t))) (λ y n. member_filter (eqb m) l n))
      go (no e) below =
          let t = ne_eqb m x e in
          rw t (Memᴰ.tail (below (omega (arith, ap length (filter_no (eqb m) x l t)))))

  without_within : (l : List ℕ) {y : ℕ} → y ∈ without_first m l → y ∈ l
  unfolding without_first
  without_within [] n = n
  without_within (x ∷ l) {y} n = go (eqb m x) n (λ k. without_within l k)
    where
      go : (b : Bool) → y ∈ cond b l (x ∷ without_first m l) → (y ∈ without_first m l → y ∈ l) → y ∈ x ∷ l
      go true k below = Memᴰ.tail k
      go false k below = cons_cases k (λ q. Memᴰ.head q) (λ j. Memᴰ.tail (below j))

-- the last three give the GQ as defined
pub gq_in_one_reading : (pl : List ℕ) → gq_from_least_pls (least_pls pl) ≡ gq_from_pl pl
unfolding gq_from_least_pls gq_from_pl least_pls
gq_in_one_reading [] = unfold filter_by without_first least in refl
gq_in_one_reading (x ∷ xs) = go (x ∷ xs) (least_in (x ∷ xs) (Memᴰ.head refl)) (ℕ_discrete (occurs (least (x ∷ xs)) (x ∷ xs)) 1)
  where
    go : (l : List ℕ) → least l ∈ l → Dec (occurs (least l) l ≡ 1) → gq_from_least_pls (least_pls l) ≡ gq_from_pl l
    go l here (yes e) = rw (eq-eqb (occurs (least l) l) 1 e, without_once (least l) l (λ y n. least_le l n) e)
    go l here (no e) =
        let more = without_more (least l) l (let z = some_least l here in omega arith) in
        let same = least_is (without_first (least l) l) (least l) more (λ y n. least_le l (without_within (least l) l n)) in
        rw (ne_eqb (occurs (least l) l) 1 e) (omega arith)
