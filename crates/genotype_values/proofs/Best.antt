-- The first place of the least PL, as a loop finds it, and the genotype there.
-- Assumes nothing.
use Prim.Native.Nat.{◌+◌, ◌<◌, ◌≤◌, min, suc, ℕ}
use borrow.Author.Tests.{eq-eqb, le-leb, lt-leb, lt-ltb, ne_eqb}
use lib.Dec.{eqb, leb}
use lib.ListN.{drop, drop_of_length-le, get_or, get_elem?, length}
use lib.Seq.{drop-cons}
use mathlib.Core.Bool.{cond}
use mathlib.Core.List.Memᴰ
use mathlib.Core.List.{List, [], ◌∷◌, foldr}
use mathlib.Core.Option
use mathlib.Core.Option.{Option, bind, none, some}
use mathlib.Core.Path.{◌∙◌, ◌≡◌, ap, refl, sym}
use native.Mathlib.Decide.{dec_le}
use native.Mathlib.Numerals.{add-one}
use native.Mathlib.Omega.{arith}
use Rattle.definitions.specs.Alleles.{genotype_count}
use Rattle.definitions.specs.Genotypes.{AllelePair, best_genotype, genotype_pairs, least}
use Rattle.definitions.specs.Lists.{index_where, only_if}
use Rattle.laws.proofs.Genotypes.{genotype_count_some, least_in, least_le}
use Rattle.laws.proofs.Members.{◌∈◌, below_at, cons_cases, get_d_some, index_found, index_there}
use Rattle.diploid_pairs.proofs.Places.{pair_at_place, pair_there, same_pair}
use Rattle.genotype_values.specs.Values.{least_pair, least_place, present}

-- the least of v and the numbers xs
abbrev least_of : ℕ → List ℕ → ℕ
least_of v xs = foldr min v xs

-- the first place of m, or 0
abbrev index_of : ℕ → List ℕ → ℕ
index_of m xs = Option.get_or (index_where (eqb m) xs) 0

-- the best place so far, where v stands, or the first place of a lesser number among xs, which stand from place i on
unfoldable pub place_from : ℕ → ℕ → ℕ → List ℕ → ℕ
place_from best v i xs = cond (leb v (least_of v xs)) best (i + index_of (least_of v xs) xs)

least_at_most : (v : ℕ) (xs : List ℕ) → least_of v xs ≤ v
unfolding least
least_at_most v xs = least_le (v ∷ xs) (Memᴰ.head refl)

least_of_less : (x v : ℕ) (xs : List ℕ) → x ≤ v → least_of x xs ≡ min x (least_of v xs)
least_of_less x v [] h = omega arith
least_of_less x v (y ∷ xs) h = let r = least_of_less x v xs h in omega arith

-- a least number below v is one of the others
least_below : (v : ℕ) (xs : List ℕ) → least_of v xs < v → least_of v xs ∈ xs
unfolding least
least_below v xs h = cons_cases (least_in (v ∷ xs) {y = v} (Memᴰ.head refl)) (λ q. absurd (omega arith)) (λ m. m)

index_first : (i m x : ℕ) (xs : List ℕ) → m ≡ x → i + index_of m (x ∷ xs) ≡ i
unfolding index_where
index_first i m x xs e = simp (eq-eqb m x e) (omega arith)

index_later : (i m x : ℕ) (xs : List ℕ) → m < x → m ∈ xs → i + index_of m (x ∷ xs) ≡ suc i + index_of m xs
unfolding index_where
index_later i m x xs h there =
    let (k, e) = index_there (eqb m) xs there (eq-eqb m m refl) in
    let apart : m ≡ x → ⊥ = λ q. omega arith in
    simp (ne_eqb m x apart, e) (omega arith)

-- the first number is the best so far
head_best : (i x : ℕ) (xs : List ℕ) → i + index_of (least_of x xs) (x ∷ xs) ≡ place_from i x (suc i) xs
unfolding place_from
head_best i x xs = go (dec_le x (least_of x xs))
  where
    go : Dec (x ≤ least_of x xs) → i + index_of (least_of x xs) (x ∷ xs) ≡ place_from i x (suc i) xs
    go (yes h) =
        let e : least_of x xs ≡ x = omega (arith, least_at_most x xs) in
        index_first i (least_of x xs) x xs e ∙ rw (le-leb x (least_of x xs) h)
    go (no h) =
        let l : least_of x xs < x = omega arith in
        index_later i (least_of x xs) x xs l (least_below x xs l) ∙ rw (lt-leb x (least_of x xs) l)

-- the next number is less
next_less : (best v i x : ℕ) (xs : List ℕ) → x < v → place_from i x (suc i) xs ≡ place_from best v i (x ∷ xs)
unfolding place_from
next_less best v i x xs h =
    let e : least_of x xs ≡ least_of v (x ∷ xs) = least_of_less x v xs (omega arith) in
    let l : least_of v (x ∷ xs) < v = omega (arith, least_at_most x xs) in
    sym (head_best i x xs) ∙ rw (e, lt-leb v (least_of v (x ∷ xs)) l)

-- the next number is not less
next_other : (best v i x : ℕ) (xs : List ℕ) → v ≤ x → place_from best v (suc i) xs ≡ place_from best v i (x ∷ xs)
unfolding place_from
next_other best v i x xs h = rw (← e) (go (dec_le v (least_of v xs)))
  where
    e : least_of v xs ≡ least_of v (x ∷ xs)
    e = omega (arith, least_at_most v xs)

    go : Dec (v ≤ least_of v xs)
        → cond (leb v (least_of v xs)) best (suc i + index_of (least_of v xs) xs)
        ≡ cond (leb v (least_of v xs)) best (i + index_of (least_of v xs) (x ∷ xs))
    go (yes l) = rw (le-leb v (least_of v xs) l)
    go (no l) =
        let below : least_of v xs < v = omega arith in
        let less : least_of v xs < x = omega arith in
        rw (lt-leb v (least_of v xs) below, index_later i (least_of v xs) x xs less (least_below v xs below))

first_place : (pl : List ℕ) → place_from 0 (get_or pl 0 0) 1 (drop 1 pl) ≡ least_place pl
unfolding least_place least
first_place [] = unfold place_from index_where in refl
first_place (x ∷ xs) = sym (head_best 0 x xs) ∙ omega arith

-- the next number x of pl is less than the least so far, or it is not

-- a loop over all, with the first as the best so far
pub place_start : (pl : List ℕ) → place_from 0 (get_or pl 0 0) 0 pl ≡ least_place pl
place_start [] = unfold place_from least_place index_where in refl
place_start (x ∷ xs) = sym (next_other 0 x 0 x xs (omega arith)) ∙ first_place (x ∷ xs)

module _ (pl : List ℕ) (best v i : ℕ) {x : ℕ} (h : i < length pl) (e : x ≡ get_or pl i 0) where
  pub place_less : x < v → place_from i x (i + 1) (drop (i + 1) pl) ≡ place_from best v i (drop i pl)
  place_less l = rw (add-one, drop-cons pl i 0, ← e) (next_less best v i x (drop (suc i) pl) l)

  pub place_other : v ≤ x → place_from best v (i + 1) (drop (i + 1) pl) ≡ place_from best v i (drop i pl)
  place_other l = rw (add-one, drop-cons pl i 0, ← e) (next_other best v i x (drop (suc i) pl) l)

pub place_end_lem : (pl : List ℕ) (best v i : ℕ) → length pl ≤ i → place_from best v i (drop i pl) ≡ best
unfolding place_from
place_end_lem pl best v i h = rw (drop_of_length-le pl h) (rw (le-leb v v (omega arith)))

-- the genotype

place_below : (pl : List ℕ) → 0 < length pl → least_place pl < length pl
unfolding least_place
place_below pl h = go (index_where (eqb (least pl)) pl) refl
  where
    go : (o : Option ℕ) → index_where (eqb (least pl)) pl ≡ o → Option.get_or o 0 < length pl
    go none e = h
    go (some k) e = below_at pl k (index_found (eqb (least pl)) pl e).1

pub present_some : (xs : List ℕ) → 0 < length xs → present xs ≡ some xs
unfolding only_if
present_some xs h = rw (lt-ltb 0 (length xs) h)

pub no_pl : (pl : List ℕ) → length pl ≡ 0 → none ≡ least_pair pl
unfolding least_pair bind only_if
no_pl [] h = refl
no_pl (x ∷ pl) h = absurd (omega arith)

pub pl_there : (pl : List ℕ) → (length pl ≡ 0 → ⊥) → least_pair pl ≡ get_elem? (genotype_pairs 16) (least_place pl)
unfolding least_pair bind
pl_there pl h = rw (present_some pl (omega arith))

-- the pair at the least PL of n alleles is the definitions' GT
pub best_is : (n : ℕ) (pl : List ℕ) → 0 < n → n ≤ 16 → length pl ≡ genotype_count n → least_pair pl ≡ some (best_genotype n pl)
unfolding best_genotype least_place
best_is n pl some-alleles few e =
    let there : 0 < length pl = omega (arith, genotype_count_some n some-alleles) in
    let below : least_place pl < genotype_count n = omega (arith, place_below pl there) in
    let pair = pair_there n (pair_at_place n (least_place pl) below) in
    let got = sym (same_pair n 16 (least_place pl) few below) ∙ pair in
    pl_there pl (λ e. omega arith)
    ∙ got
    ∙ ap {B = Option AllelePair} some (sym (get_d_some (genotype_pairs n) (least_place pl) _ pair))
