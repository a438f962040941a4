-- Minus p over 10, rounded to binary64: what the division computes, and how near it is. Assumes nothing.
use mathlib.Core.Path.{◌≡◌, refl, sym, ap, ◌∙◌, subst}
use mathlib.Core.Bool.{true, false, not}
use Prim.Native.Nat.{ℕ, zero, suc, ◌+◌, ◌-◌, ◌*◌, ◌/◌, ◌%◌, ◌^◌, ◌≤◌, ◌<◌, compare, Ordering}
use native.Mathlib.Nat.{le_trans, le_of_eq, mul_comm, mul_assoc, mul_right_comm, mul_left_comm, mul-sub, add-mul, suc-mul, mul-pos, mod-lt, div-add-mod', mul-le-mul_right, le_of_mul-le-mul_right, le-div_iff_mul-le, lt_of_le_of_lt, lt_trans, mul-lt-mul_of_pos_right}
use native.Mathlib.Omega.{arith}
use lib.IntN.{pos}
use lib.Dec.{T, is_le, compare_is_eq, eqb, leb→le, nleb→lt, eqb→eq, eqb_refl, lit<, lit≤}
use lib.Arith.{lt_of_le-ne}
use lib.Pow.{pow_pos, pow-add}
use lib.Ieee.{Float, nan, inf, fin, binary64, up, down, low, size, nearest, neg, div, round, of_int, units}
use lib.Ieee.Digits.{size_reaches}
use lib.Ieee.Exact.{HasValue, units_val}
use lib.Ieee.Fits.{round_is}
use lib.Ieee.Back.{round_whole}
use lib.Ieee.Scale.{round_same, normal_of_fraction}
use lib.Ieee.Fits.{down_pos}
use Rattle.definitions.specs.Likelihoods.{NearMinusTenth, distance, log10_from_pl}

-- ---- the quotient

same_fraction : (a p d : ℕ) → a * 1 ≡ p * d → a * 1 * 10 ≡ p * (10 * d)
same_fraction a p d h = ap (λ (x : ℕ). x * 10) h ∙ mul_assoc p d 10 ∙ ap (λ (x : ℕ). p * x) (mul_comm d 10)

div_of : (x : Float) (p : ℕ) → HasValue x false p 1 → div binary64 (neg x) (fin false 5 (pos 1)) ≡ round binary64 true p 10
unfolding div neg
div_of nan p v = absurd v
div_of (inf s) p v = absurd v
div_of (fin s m e) p v =
    rw v.0
    (round_same binary64 true (m * up e * 1) (10 * down e) p 10 (mul-pos (lit< tt) (down_pos e)) (lit< tt) (same_fraction (m * up e) p (down e) v.1))

pub div_tenth : (p : ℕ) → p ≤ 2 ^ 53 → div binary64 (neg (of_int binary64 (pos p))) (fin false 5 (pos 1)) ≡ log10_from_pl p
unfolding of_int log10_from_pl
div_tenth p h = div_of (round binary64 false p 1) p (round_whole binary64 false p h)

-- ---- how near it is, over numbers alone

abbrev Cmp : Ordering → ℕ → ℕ → Type 0
Cmp Ordering.lt a b = a < b
Cmp Ordering.eq a b = a ≡ b
Cmp Ordering.gt a b = b < a

cmp : (a b : ℕ) → Cmp (compare a b) a b
cmp a b = go (compare a b) (leb→le a b) (nleb→lt a b) (eqb→eq a b) (λ (e : a ≡ b). subst (λ (x : ℕ). T (eqb a x)) e (eqb_refl a))
  where
    go : (o : Ordering) → (T (is_le o) → a ≤ b) → (T (not (is_le o)) → b < a) → (T (compare_is_eq o) → a ≡ b) → (a ≡ b → T (compare_is_eq o)) → Cmp o a b
    go Ordering.lt h k e n = lt_of_le-ne (h tt) n
    go Ordering.eq h k e n = e tt
    go Ordering.gt h k e n = k tt

tie_half : (q u r d : ℕ) → d < 2 → r * 2 ≡ u → distance ((q + d) * u) (q * u + r) * 2 ≤ u
unfolding distance
tie_half q u r zero h e = omega (arith, add-mul q 0 u)
tie_half q u r (suc zero) h e = omega (arith, add-mul q 1 u)
tie_half q u r (suc (suc d)) h e = absurd (omega arith)

half_by : (q u r : ℕ) (o : Ordering) → Cmp o (r * 2) u → r < u → distance (nearest q o * u) (q * u + r) * 2 ≤ u
unfolding distance
half_by q u r Ordering.lt c h = omega arith
half_by q u r Ordering.eq c h = tie_half q u r (q % 2) (omega arith) c
half_by q u r Ordering.gt c h = omega (arith, suc-mul q u)

-- the nearest multiple of u is within half a u
half : (n u : ℕ) → 0 < u → distance (nearest (n / u) (compare (n % u * 2) u) * u) n * 2 ≤ u
half n u h =
    subst (λ (k : ℕ). distance (nearest (n / u) (compare (n % u * 2) u) * u) k * 2 ≤ u) (div-add-mod' n u)
    (half_by (n / u) u (n % u) (compare (n % u * 2) u) (cmp (n % u * 2) u) (mod-lt n h))

distance_mul : (a b c : ℕ) → distance (a * c) (b * c) ≡ distance a b * c
unfolding distance
distance_mul a b c =
    let s : (x y : ℕ) → x * c - y * c ≡ (x - y) * c = λ x y. rw (mul_comm (x - y) c, mul_comm x c, mul_comm y c) (sym (mul-sub c x y)) in
    rw (add-mul (a - b) (b - a) c, s a b, s b a)

near_of_half : (d n u : ℕ) → d * 2 ≤ u → 2 ^ 52 * u ≤ n → 2 ^ 53 * d ≤ n
near_of_half d n u h k = omega arith

unit_bound : (n k : ℕ) → 2 ^ (52 + k) ≤ n / 10 → 2 ^ 52 * (10 * 2 ^ k) ≤ n
unit_bound n k h =
    le_trans
    (le_of_eq (ap (λ (x : ℕ). 2 ^ 52 * x) (mul_comm 10 (2 ^ k)) ∙ sym (mul_assoc (2 ^ 52) (2 ^ k) 10) ∙ ap (λ (x : ℕ). x * 10) (sym (pow-add 2 52 k))))
    ((le-div_iff_mul-le (lit< tt)).0 h)

-- the multiple of 2 ^ k units that n tenths round to is near, where n tenths have 53 digits or more
near_units : (n : ℕ) → 53 ≤ size (n / 10) → (k : ℕ) → k ≡ size (n / 10) - 53
    → 2 ^ 53 * distance (nearest (n / (10 * 2 ^ k)) (compare (n % (10 * 2 ^ k) * 2) (10 * 2 ^ k)) * (10 * 2 ^ k)) n ≤ n
near_units n h k e =
    near_of_half _ n (10 * 2 ^ k) (half n (10 * 2 ^ k) (mul-pos (lit< tt) (pow_pos k))) (unit_bound n k (size_reaches (n / 10) (52 + k) (omega arith)))

-- from units to the float
near_value : (x : Float) (p g l : ℕ) → 0 < l → HasValue x true g l → 2 ^ 53 * distance (10 * g) (p * l) ≤ p * l → NearMinusTenth p x
unfolding NearMinusTenth
near_value nan p g l above v h = absurd v
near_value (inf s) p g l above v h = absurd v
near_value (fin s m e) p g l above v h = (v.0, le_of_mul-le-mul_right {k = l} scaled_up above)
  where
    tens : 10 * (m * up e) * l ≡ 10 * g * down e
    tens = mul_assoc 10 (m * up e) l ∙ ap (λ (y : ℕ). 10 * y) v.1 ∙ sym (mul_assoc 10 g (down e))

    ones : p * down e * l ≡ p * l * down e
    ones = mul_right_comm p (down e) l

    scaled_up : 2 ^ 53 * distance (10 * (m * up e)) (p * down e) * l ≤ p * down e * l
    scaled_up =
        le_trans
        (le_of_eq (mul_assoc (2 ^ 53) (distance (10 * (m * up e)) (p * down e)) l
        ∙ ap (λ (y : ℕ). 2 ^ 53 * y) (sym (distance_mul (10 * (m * up e)) (p * down e) l) ∙ rw (tens, ones) (distance_mul (10 * g) (p * l) (down e)))
        ∙ sym (mul_assoc (2 ^ 53) (distance (10 * g) (p * l)) (down e))))
        (le_trans (mul-le-mul_right (down e) h) (le_of_eq (sym ones)))

no_more : (g n : ℕ) → 2 ^ 53 * distance (10 * g) n ≤ n → g ≤ n
unfolding distance
no_more g n h = omega arith

near_some : (p : ℕ) → 0 < p → p < 2 ^ 32 → NearMinusTenth p (round binary64 true p 10)
near_some p h s =
    let n = p * 2 ^ 1074 in
    let z : 53 ≤ size (n / 10) = normal_of_fraction binary64 p 10 (lit< tt) (le_trans (lit≤ tt) (mul-le-mul_right (2 ^ 1074) h)) in
    let k = size (n / 10) - 53 in
    let q = nearest (n / (10 * 2 ^ k)) (compare (n % (10 * 2 ^ k) * 2) (10 * 2 ^ k)) in
    let near : 2 ^ 53 * distance (10 * (q * 2 ^ k)) n ≤ n = rw (mul_left_comm 10 q (2 ^ k)) (near_units n z k refl) in
    let fine : q * 2 ^ k < 2 ^ (low binary64 + suc (lib.Ieee.emax binary64)) =
    lt_of_le_of_lt (no_more (q * 2 ^ k) n near) (lt_trans (mul-lt-mul_of_pos_right s (pow_pos 1074)) (lit< tt)) in
    rw (round_is binary64 true p 10) (near_value (units binary64 true q k) p (q * 2 ^ k) (2 ^ 1074) (pow_pos 1074) (units_val binary64 true q k fine) near)

near_zero : NearMinusTenth 0 (round binary64 true 0 10)
unfolding round units lib.Ieee.odd size lib.Ieee.span lib.Ieee.climb NearMinusTenth distance
near_zero = (refl, lit≤ tt)

pub near_tenth : (p : ℕ) → p < 2 ^ 32 → NearMinusTenth p (log10_from_pl p)
unfolding log10_from_pl
near_tenth zero h = near_zero
near_tenth (suc p) h = near_some (suc p) (omega arith) h
