-- The order of finite floats, and that a value less a value that is not below it is not above 0. Assumes nothing.
use mathlib.Core.Path.{◌≡◌, refl, sym, ◌∙◌}
use mathlib.Core.Logic.{⊎_elim, ◌⊎◌, inl, inr}
use mathlib.Core.Bool.{Bool, true, false, not, ◌||◌, cond}
use Prim.Native.Nat.{ℕ, zero, suc, ◌+◌, ◌-◌, ◌*◌, ◌^◌, ◌≤◌, ◌<◌}
use native.Mathlib.Nat.{le_refl, le_of_eq, le_of_lt, eq-or-lt_of_le, mul-pos, zero-mul}
use native.Mathlib.Omega.{arith}
use lib.IntN.{ℤ, pos}
use lib.Dec.{T, ltb, eqb, ltb→lt, nltb→le, lt→ltb, eqb→eq, lit<}
use lib.Ieee.{Float, nan, inf, fin, binary64, up, down, below, level, lt, eq, le, neg, add, sub, sum, round, units, odd, prec, low, emax}
use lib.Ieee.Fits.{and_i, and_l, and_r, down_pos, eq→eqb, round_is}
use lib.Ieee.Exact.{HasValue, round_exact}
use lib.Ieee.Positive.{through}
use lib.Ieee.Scale.{finite}
use Rattle.likelihoods.specs.Written.{not_above}

or_left : (a b : Bool) → T a → T (a || b)
or_left true b t = tt
or_left false b t = absurd t

or_right : (a b : Bool) → T b → T (a || b)
or_right true b t = tt
or_right false b t = t

or_cases : (a b : Bool) → T (a || b) → T a ⊎ T b
or_cases true b t = inl tt
or_cases false b t = inr t

-- ±a ≤ ±b
abbrev Le : Bool → ℕ → Bool → ℕ → Type 0
Le false a false b = a ≤ b
Le false a true b = (a ≡ 0) × (b ≡ 0)
Le true a false b = Unit {0}
Le true a true b = b ≤ a

le_of : (s : Bool) (a : ℕ) (t : Bool) (b : ℕ) → Le s a t b → T (below s a t b || level s a t b)
le_of false a false b h = ⊎_elim (λ e. or_right (ltb a b) _ (and_i (eqb a b) true (eq→eqb e) tt)) (λ l. or_left (ltb a b) _ (lt→ltb a b l)) (eq-or-lt_of_le h)
le_of false a true b h = and_i (eqb a b) (eqb a 0) (eq→eqb (h.0 ∙ sym h.1)) (eq→eqb h.0)
le_of true zero false zero h = tt
le_of true zero false (suc b) h = or_left (ltb 0 (0 + suc b)) _ (lt→ltb 0 (0 + suc b) (omega arith))
le_of true (suc a) false b h = or_left (ltb 0 (suc a + b)) _ (lt→ltb 0 (suc a + b) (omega arith))
le_of true a true b h = ⊎_elim (λ e. or_right (ltb b a) _ (and_i (eqb a b) true (eq→eqb (sym e)) tt)) (λ l. or_left (ltb b a) _ (lt→ltb b a l)) (eq-or-lt_of_le h)

of_le : (s : Bool) (a : ℕ) (t : Bool) (b : ℕ) → T (below s a t b || level s a t b) → Le s a t b
of_le false a false b h = ⊎_elim (λ l. le_of_lt (ltb→lt a b l)) (λ e. le_of_eq (eqb→eq a b (and_l (eqb a b) true e))) (or_cases (ltb a b) _ h)
of_le false a true b h =
    let e = eqb→eq a b (and_l (eqb a b) (eqb a 0) h) in
    let z = eqb→eq a 0 (and_r (eqb a b) (eqb a 0) h) in
    (z, sym e ∙ z)
of_le true a false b h = tt
of_le true a true b h = ⊎_elim (λ l. le_of_lt (ltb→lt b a l)) (λ e. le_of_eq (sym (eqb→eq a b (and_l (eqb a b) true e)))) (or_cases (ltb b a) _ h)

-- ±a is not below ±b
of_not_below : (s : Bool) (a : ℕ) (t : Bool) (b : ℕ) → T (not (below s a t b)) → Le t b s a
of_not_below false a false b h = nltb→le a b h
of_not_below false a true b h = tt
of_not_below true a false b h = let z = nltb→le 0 (a + b) h in (omega arith, omega arith)
of_not_below true a true b h = nltb→le b a h

le_self : (s : Bool) (a : ℕ) → Le s a s a
le_self false a = le_refl a
le_self true a = le_refl a

zero_of : (a b : ℕ) → 0 < b → a * b ≡ 0 → a ≡ 0
zero_of zero b h e = refl
zero_of (suc a) b h e = absurd (omega (arith, mul-pos {m = suc a} {n = b} (omega arith) h))

-- of three fractions x / p, y / q and z / r
chain : (s : Bool) (x p : ℕ) (t : Bool) (y q : ℕ) (u : Bool) (z r : ℕ) → 0 < p → 0 < q → 0 < r
    → Le s (x * q) t (y * p) → Le t (y * r) u (z * q) → Le s (x * r) u (z * p)
chain false x p false y q false z r P Q R h k = through x y z p q r Q h k
chain false x p false y q true z r P Q R h k =
    let y0 = zero_of y r R k.0 in
    let z0 = zero_of z q Q k.1 in
    let x0 : x ≡ 0 = zero_of x q Q (omega (arith, rw (y0, zero-mul p) at h)) in
    (rw (x0, zero-mul r), rw (z0, zero-mul p))
chain false x p true y q false z r P Q R h k = let x0 = zero_of x q Q h.0 in rw (x0, zero-mul r) Prim.Native.Nat.zero-le
chain false x p true y q true z r P Q R h k =
    let x0 = zero_of x q Q h.0 in
    let y0 = zero_of y p P h.1 in
    let z0 : z ≡ 0 = zero_of z q Q (omega (arith, rw (y0, zero-mul r) at k)) in
    (rw (x0, zero-mul r), rw (z0, zero-mul p))
chain true x p false y q false z r P Q R h k = tt
chain true x p true y q false z r P Q R h k = tt
chain true x p false y q true z r P Q R h k = let z0 = zero_of z q Q k.1 in rw (z0, zero-mul p) Prim.Native.Nat.zero-le
chain true x p true y q true z r P Q R h k = through z y x r q p Q k h

pub le_trans_finite : (x y z : Float) → T (finite x) → T (finite y) → T (finite z) → T (le x y) → T (le y z) → T (le x z)
unfolding le lt eq
le_trans_finite nan y z fx fy fz h k = absurd fx
le_trans_finite (inf s) y z fx fy fz h k = absurd fx
le_trans_finite (fin s m e) nan z fx fy fz h k = absurd fy
le_trans_finite (fin s m e) (inf t) z fx fy fz h k = absurd fy
le_trans_finite (fin s m e) (fin t n d) nan fx fy fz h k = absurd fz
le_trans_finite (fin s m e) (fin t n d) (inf u) fx fy fz h k = absurd fz
le_trans_finite (fin s m e) (fin t n d) (fin u o c) fx fy fz h k =
    le_of s _ u _
    (chain s (m * up e) (down e) t (n * up d) (down d) u (o * up c) (down c) (down_pos e) (down_pos d) (down_pos c)
    (of_le s (m * up e * down d) t (n * up d * down e) h) (of_le t (n * up d * down c) u (o * up c * down d) k))

pub le_refl_finite : (x : Float) → T (finite x) → T (le x x)
unfolding le lt eq
le_refl_finite nan f = absurd f
le_refl_finite (inf s) f = absurd f
le_refl_finite (fin s m e) f = le_of s (m * up e * down e) s (m * up e * down e) (le_self s (m * up e * down e))

pub le_of_lt_float : (x y : Float) → T (lt x y) → T (le x y)
unfolding le
le_of_lt_float x y h = or_left (lt x y) (eq x y) h

pub le_of_not_lt : (x y : Float) → T (finite x) → T (finite y) → T (not (lt x y)) → T (le y x)
unfolding le lt eq
le_of_not_lt nan y fx fy h = absurd fx
le_of_not_lt (inf s) y fx fy h = absurd fx
le_of_not_lt (fin s m e) nan fx fy h = absurd fy
le_of_not_lt (fin s m e) (inf t) fx fy h = absurd fy
le_of_not_lt (fin s m e) (fin t n d) fx fy h = le_of t _ s _ (of_not_below s (m * up e * down d) t (n * up d * down e) h)

-- ---- a difference

low_negative : (m : ℕ) (e : ℤ) → T (not_above (fin true m e))
unfolding le lt eq
low_negative m e = le_of true (m * up e * 1) false (0 * down e) tt

low_infinite : T (not_above (inf true))
unfolding le lt eq
low_infinite = tt

low_units : (q k : ℕ) → T (not_above (units binary64 true q k))
unfolding units odd
low_units q k = go (ltb (q * 2 ^ k) (2 ^ (low binary64 + suc (emax binary64)))) q
  where
    go : (b : Bool) (q : ℕ) → T (not_above (cond b (odd (suc (prec binary64)) true q k (low binary64)) (inf true)))
    go true zero = low_negative zero (pos zero)
    go true (suc q) = low_negative _ _
    go false q = low_infinite

low_round : (a c : ℕ) → T (not_above (round binary64 true a c))
low_round a c = rw (round_is binary64 true a c) (low_units _ _)

-- a zero of either sign is not above 0
low_zero : (x : Float) (s : Bool) (c : ℕ) → 0 < c → HasValue x s 0 c → T (not_above x)
unfolding le lt eq
low_zero nan s c h v = absurd v
low_zero (inf t) s c h v = absurd v
low_zero (fin true m e) s c h v = low_negative m e
low_zero (fin false m e) s c h v = le_of false (m * up e * 1) false (0 * down e) (le_of_eq (rw (zero_of (m * up e) c h (v.1 ∙ zero-mul (down e))) (sym (zero-mul (down e)))))

low_none : (s : Bool) (c : ℕ) → 0 < c → T (not_above (round binary64 s 0 c))
low_none s c h = low_zero (round binary64 s 0 c) s c h (round_exact binary64 s 0 c 0 0 h (lit< tt) (lit< tt) (sym (zero-mul c)))

low_sum : (s : Bool) (a : ℕ) (t : Bool) (b c : ℕ) → 0 < c → Le s a t b → T (not_above (sum binary64 s a (not t) b c))
unfolding sum
low_sum false a false b c C h = go (ltb a b) refl
  where
    go : (p : Bool) → ltb a b ≡ p → T (not_above (cond p (round binary64 true (b - a) c) (round binary64 false (a - b) c)))
    go true e = low_round (b - a) c
    go false e = let z : a - b ≡ 0 = omega arith in rw z (low_none false c C)
low_sum false a true b c C h = let z : a + b ≡ 0 = omega arith in rw z (low_none false c C)
low_sum true a false b c C h = low_round (a + b) c
low_sum true a true b c C h = go (ltb a b) (ltb b a) (ltb→lt a b) (nltb→le b a)
  where
    go : (p q : Bool) → (T p → a < b) → (T (not q) → a ≤ b) → T (not_above (cond p (round binary64 false (b - a) c) (round binary64 q (a - b) c)))
    go true q x y = let l = x tt in absurd (omega arith)
    go false true x y = low_round (a - b) c
    go false false x y = let l = y tt in let z : a - b ≡ 0 = omega arith in rw z (low_none false c C)

pub low_difference : (x y : Float) → T (finite x) → T (finite y) → T (le x y) → T (not_above (sub binary64 x y))
unfolding sub add neg le lt eq
low_difference nan y fx fy h = absurd fx
low_difference (inf s) y fx fy h = absurd fx
low_difference (fin s m e) nan fx fy h = absurd fy
low_difference (fin s m e) (inf t) fx fy h = absurd fy
low_difference (fin s m e) (fin t n d) fx fy h =
    low_sum s (m * up e * down d) t (n * up d * down e) (down e * down d) (mul-pos (down_pos e) (down_pos d)) (of_le s (m * up e * down d) t (n * up d * down e) h)
