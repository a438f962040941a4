-- One step over lists of PLs, with a count that is held at the greatest usize; what the front of a list gives; the GQ at the end.
use Prim.Native.Nat.{◌+◌, ◌<◌, ◌≤◌, min, suc, zero, ℕ}
use borrow.Author.Tests.{eq-eqb, le-ltb, lt-ltb, ne_eqb}
use lib.Dec.{eqb, ltb}
use lib.ListN.{get_or, length, length-append, take}
use lib.Seq.{take_all, take-suc}
use mathlib.Core.Bool.{Bool, ◌||◌, cond, false, true}
use mathlib.Core.List.{List, [], ◌++◌, ◌∷◌}
use mathlib.Core.Logic.{inl, inr, ⊎_elim}
use mathlib.Core.Path.{◌∙◌, ◌≡◌, ap, refl, sym}
use native.Mathlib.Decide.{dec_lt, ℕ_discrete}
use native.Mathlib.Numerals.{add-one}
use native.Mathlib.Omega.{arith}
use Rattle.definitions.specs.CalledGenotypes.{LeastPls, gq_from_least_pls, gq_from_pl, least_pls, with_next_pl}
use Rattle.definitions.specs.Genotypes.{least}
use Rattle.definitions.specs.Lists.{filter_by}
use Rattle.laws.proofs.GqInOneReading.{gq_in_one_reading, one_step, second_above, step_again, step_higher, step_lower, three}
use Rattle.laws.proofs.Members.{filter_few}
use Rattle.genotyping.specs.OneReading.{Read, count_held, equal_pls, most_count, with_later_pl}

-- ---- a held count

-- no count of a usize changes
pub held : (a n b : ℕ) → n ≤ most_count → count_held (three a n b) ≡ three a n b
unfolding count_held
held a n b h = ap (λ (k : ℕ). three a k b) (let e : min most_count n ≡ n = omega arith in e)

-- it equals a lesser number exactly if the count does
held_same : (n k : ℕ) → k < most_count → eqb (min most_count n) k ≡ eqb n k
held_same n k h = go (ℕ_discrete n k)
  where
    go : Dec (n ≡ k) → eqb (min most_count n) k ≡ eqb n k
    go (yes e) = rw (eq-eqb n k e) (eq-eqb (min most_count n) k (omega arith))
    go (no e) = rw (ne_eqb n k e) (ne_eqb (min most_count n) k (λ q. omega arith))

-- a count that is held before the step as well is the same behind it
held_step : (t : LeastPls) (p : ℕ) → count_held (with_next_pl (count_held t) p) ≡ count_held (with_next_pl t p)
unfolding with_next_pl count_held
held_step t p = rw (held_same t.count 0 (omega arith)) (go (eqb t.count 0 || ltb p t.least_pl) (eqb p t.least_pl))
  where
    n : ℕ
    n = t.count

    second : ℕ
    second = cond (eqb t.second 0) p (min p t.second)

    go : (first-or-lower again : Bool)
        → count_held (cond first-or-lower (three p 1 t.least_pl)
        (cond again (three p (suc (min most_count n)) t.second) (three t.least_pl (min most_count n) second)))
        ≡ count_held (cond first-or-lower (three p 1 t.least_pl) (cond again (three p (suc n) t.second) (three t.least_pl n second)))
    go true again = refl
    go false true =
        ap (λ (k : ℕ). three p k t.second) (let e : min most_count (suc (min most_count n)) ≡ min most_count (suc n) = omega arith in e)
    go false false =
        ap (λ (k : ℕ). three t.least_pl k second) (let e : min most_count (min most_count n) ≡ min most_count n = omega arith in e)

-- ---- the step over lists

-- from the three over any first PLs, and the next PL, to the three over all of those: what `with_next_pl` answers, for every list
pub one_step_held : (ps : List ℕ) (p : ℕ) → count_held (with_next_pl (count_held (least_pls ps)) p) ≡ count_held (least_pls (ps ++ (p ∷ [])))
one_step_held ps p = held_step (least_pls ps) p ∙ ap count_held (one_step ps p)

-- a list that is no longer than the greatest usize has no count to hold
pub none_held : (ps : List ℕ) → length ps ≤ most_count → count_held (least_pls ps) ≡ least_pls ps
unfolding least_pls
none_held ps h = held _ _ _ (let few = filter_few (eqb (least ps)) ps in omega arith)

-- so where the three over a list that a slice can hold are handed in, they are those over all of it and the next PL
pub next_three : (ps : List ℕ) (p : ℕ) {t r : LeastPls} → length ps < 9223372036854775808
    → t ≡ least_pls ps → r ≡ count_held (with_next_pl t p) → r ≡ least_pls (ps ++ (p ∷ []))
next_three ps p h e f = f ∙ rw (e, one_step ps p) (none_held (ps ++ (p ∷ [])) (omega (arith, length-append ps (p ∷ []))))

-- ---- where there is a second

-- a PL that is not below it changes nothing
stays : (a n b p : ℕ) → 0 < n → a < b → b ≤ p → with_next_pl (three a n b) p ≡ three a n b
stays a n b p some above h =
    step_higher a n b p some (omega arith)
    ∙ rw (ne_eqb b 0 (λ q. omega arith)) (ap (λ (k : ℕ). three a n k) (let e : min p b ≡ b = omega arith in e))

-- there still is one behind the step
second_kept : (a n b p : ℕ) → 0 < n → 0 < b → 0 < (with_next_pl (three a n b) p).second
second_kept a n b p some h = go (dec_lt p a) (ℕ_discrete p a)
  where
    go : Dec (p < a) → Dec (p ≡ a) → 0 < (with_next_pl (three a n b) p).second
    go (yes l) d = rw (step_lower a n b p l) (omega arith)
    go (no l) (yes e) = rw (step_again a n b p some e) h
    go (no l) (no e) = rw (step_higher a n b p some (omega arith), ne_eqb b 0 (λ q. omega arith)) (omega arith)

module _ (ps : List ℕ) (p : ℕ) (second : 0 < (least_pls ps).second) where
  later_step : with_later_pl (count_held (least_pls ps)) p ≡ count_held (least_pls (ps ++ (p ∷ [])))
  unfolding with_later_pl count_held
  later_step = go (dec_lt p (least_pls ps).second)
    where
      go : Dec (p < (least_pls ps).second) → with_later_pl (count_held (least_pls ps)) p ≡ count_held (least_pls (ps ++ (p ∷ [])))
      go (yes h) = rw (lt-ltb p (least_pls ps).second h) (one_step_held ps p)
      go (no h) =
          let above = second_above ps second in
          rw (le-ltb p (least_pls ps).second (omega arith))
          (ap count_held (sym (stays _ _ _ p above.0 above.1 (omega arith)) ∙ one_step ps p))

  later_second : 0 < (least_pls (ps ++ (p ∷ []))).second
  later_second =
      let t = least_pls ps in
      let kept : 0 < (with_next_pl t p).second = second_kept t.least_pl t.count t.second p (second_above ps second).0 second in
      rw (one_step ps p) at kept

-- ---- a list read from the front on

take_next : (pl : List ℕ) (i : ℕ) → i < length pl → take (i + 1) pl ≡ take i pl ++ (get_or pl i 0 ∷ [])
take_next pl i h = rw (add-one, take-suc pl i 0)

pub read_none : (pl : List ℕ) {t : LeastPls} → length pl ≡ 0 → t ≡ equal_pls 0 0 → Read pl t 0
unfolding count_held least_pls least filter_by
read_none [] h e = record { within = omega arith; three = e; told = inl (omega arith) }
read_none (p ∷ pl) h e = absurd (omega arith)

-- the first i PLs, one at least, equal the first
pub record Alike (pl : List ℕ) (first i : ℕ) : Type 0 where
  pub some : 0 < i
  pub within : i ≤ length pl
  pub three : least_pls (take i pl) ≡ equal_pls first i

pub alike_start : (pl : List ℕ) → 0 < length pl → Alike pl (get_or pl 0 0) 1
unfolding least_pls least filter_by
alike_start [] h = absurd (omega arith)
alike_start (p ∷ pl) h = record { some = omega arith; within = omega arith; three = rw (eq-eqb p p refl, le-ltb p p (omega arith)) }

module _ (pl : List ℕ) (first i : ℕ) (alike : Alike pl first i) where
  next_alike : i < length pl → least_pls (take (i + 1) pl) ≡ with_next_pl (equal_pls first i) (get_or pl i 0)
  next_alike h = rw (take_next pl i h, ← one_step (take i pl) (get_or pl i 0), alike.three)

  pub alike_again : i < length pl → get_or pl i 0 ≡ first → Alike pl first (i + 1)
  alike_again h e = record {
    some = omega arith;
    within = omega arith;
    three = next_alike h ∙ step_again first i 0 (get_or pl i 0) alike.some e ∙ rw (e, add-one);
  }

  -- an other one is the second, or makes the first the second
  pub alike_other : {s t : LeastPls} → i < length pl → (get_or pl i 0 ≡ first → ⊥)
      → s ≡ equal_pls first i → t ≡ count_held (with_next_pl s (get_or pl i 0)) → Read pl t (i + 1)
  unfolding count_held
  alike_other h other e f = record {
    within = omega arith;
    three = f ∙ rw e (ap count_held (sym (next_alike h)));
    told = inr (rw (f, e) (go (dec_lt (get_or pl i 0) first)));
  }
    where
      go : Dec (get_or pl i 0 < first) → 0 < (with_next_pl (equal_pls first i) (get_or pl i 0)).second
      go (yes l) = rw (step_lower first i 0 (get_or pl i 0) l) (omega arith)
      go (no l) = rw (step_higher first i 0 (get_or pl i 0) alike.some (omega arith)) (omega arith)

  pub alike_all : {t : LeastPls} → length pl ≤ i → length pl ≤ most_count → t ≡ equal_pls first (length pl) → Read pl t (length pl)
  alike_all h most e = record {
    within = omega arith;
    three =
        let all : i ≡ length pl = omega (arith, alike.within) in
        e ∙ sym (ap count_held (rw all at alike.three) ∙ held first (length pl) 0 most);
    told = inl (omega arith);
  }

-- the first i PLs are alike if each equals the first
pub alike_to : (pl : List ℕ) → 0 < length pl → (i : ℕ) → 0 < i → i ≤ length pl → ((k : ℕ) → k < i → get_or pl k 0 ≡ get_or pl 0 0) → Alike pl (get_or pl 0 0) i
alike_to pl some zero h within same = absurd (omega arith)
alike_to pl some (suc zero) h within same = alike_start pl some
alike_to pl some (suc (suc i)) h within same =
    rw add-one at (alike_again pl _ (suc i) (alike_to pl some (suc i) (omega arith) (omega arith) (λ k less. same k (omega arith))) (omega arith) (same (suc i) (omega arith)))

-- one more PL behind the front
pub read_later : (pl : List ℕ) {t r : LeastPls} (i : ℕ) → Read pl t i → i < length pl → r ≡ with_later_pl t (get_or pl i 0) → Read pl r (i + 1)
unfolding count_held
read_later pl {t} {r} i read h e = record {
  within = omega arith;
  three = now_three;
  told = inr (rw now_three (rw (take_next pl i h) (later_second (take i pl) (get_or pl i 0) second)));
}
  where
    second : 0 < (least_pls (take i pl)).second
    second = ⊎_elim (λ (all : length pl ≤ i). absurd (omega arith)) (λ (there : 0 < t.second). rw read.three at there) read.told

    now_three : r ≡ count_held (least_pls (take (i + 1) pl))
    now_three = e ∙ rw (read.three, take_next pl i h) (later_step (take i pl) (get_or pl i 0) second)

-- ---- the end

-- the last three give the GQ as defined
pub gq_of_all : (pl : List ℕ) {t : LeastPls} (i : ℕ) → Read pl t i → length pl ≤ i → gq_from_least_pls t ≡ gq_from_pl pl
unfolding gq_from_least_pls count_held
gq_of_all pl {t} i read h = rw (read.three, take_all i pl h, held_same (least_pls pl).count 1 (omega arith)) (gq_in_one_reading pl)
