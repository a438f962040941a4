-- The numbers of a list that pass a test, stored one by one.
use Prim.Native.Nat.{◌+◌, ◌-◌, ◌<◌, ◌^◌, ◌≤◌, suc, ℕ}
use lib.ListN.{drop, drop_of_length-le, get_or, length, length-append, length-map}
use lib.Seq.{drop-cons}
use mathlib.Core.Bool.{Bool, cond, false, true}
use mathlib.Core.List.{List, [], ◌++◌, ◌∷◌, map}
use mathlib.Core.Path.{◌≡◌, ap, refl}
use native.Mathlib.Numerals.{add-one}
use native.Mathlib.Omega.{arith}
use Rattle.definitions.specs.Lists.{filter_by, numbers_from}
use Rattle.kv_write.proofs.Laying.{Left, done, left_length, recast, several, start}
use Rattle.kv_write.specs.Laid.{Laid}
use Rattle.covering_sites.specs.Runs.{only_when}

filter_next : (p : ℕ → Bool) (f : ℕ → ℕ) (x : ℕ) (l : List ℕ) → map f (filter_by p (x ∷ l)) ≡ only_when (p x) (f x) ++ map f (filter_by p l)
unfolding filter_by
filter_next p f x l = go (p x)
  where
    go : (b : Bool) → map f (cond b (x ∷ filter_by p l) (filter_by p l)) ≡ only_when b (f x) ++ map f (filter_by p l)
    go true = refl
    go false = refl

-- f of those of all that pass was to be stored from `at` on, and that of those of the rest is left
pub record Keeping (p : ℕ → Bool) (f : ℕ → ℕ) (out₀ : List ℕ) (at : ℕ) (all out : List ℕ) (next : ℕ) (rest : List ℕ) : Type 0 where
  pub left : Left out₀ at (map f (filter_by p all)) out next (map f (filter_by p rest))
  pub room : at + length (filter_by p all) ≤ length out₀

module _ {p : ℕ → Bool} {f : ℕ → ℕ} {out₀ : List ℕ} {at : ℕ} {all : List ℕ} where
  pub keep_start : length out₀ < 2 ^ 64 → at + length (filter_by p all) ≤ length out₀ → Keeping p f out₀ at all out₀ at all
  keep_start l h = record { left = start (omega (arith, length-map (filter_by p all) f)); room = h }

  module _ {out : List ℕ} {next : ℕ} where
    -- the rest said another way
    pub keep_as : {rest rest' : List ℕ} → rest ≡ rest' → Keeping p f out₀ at all out next rest → Keeping p f out₀ at all out next rest'
    keep_as e k = rw (← e) k

    module _ {x : ℕ} {rest : List ℕ} (k : Keeping p f out₀ at all out next (x ∷ rest)) {test : Bool} (e : test ≡ p x) {number : ℕ}
        (is : number ≡ f x) where
      -- what the call that stores the next number requires
      pub keep_room : next + length (only_when test number) ≤ length out
      keep_room = rw (e, is) (omega (
        arith,
        k.room,
        k.left.place,
        left_length k.left,
        length-map (filter_by p all) f,
        ap length (filter_next p f x rest),
        length-append (only_when (p x) (f x)) (map f (filter_by p rest)),
      ))

      pub keep_next : {out' : List ℕ} {next' : ℕ} → Laid out next (only_when test number) out' next' → Keeping p f out₀ at all out' next' rest
      keep_next l = record { left = several (rw (e, is) at l) (recast (filter_next p f x rest) k.left); room = k.room }

    pub keep_end : Keeping p f out₀ at all out next [] → Laid out₀ at (map f (filter_by p all)) out next
    unfolding filter_by
    keep_end k = done k.left

    pub keep_length : {rest : List ℕ} → Keeping p f out₀ at all out next rest → length out ≡ length out₀
    keep_length k = left_length k.left

-- what is left of a count, and of a list

pub numbers_next : (n i : ℕ) → i < n → numbers_from i (n - i) ≡ i ∷ numbers_from (i + 1) (n - (i + 1))
unfolding numbers_from
numbers_next n i h = let m : n - i ≡ suc (n - (i + 1)) = omega arith in rw (m, ← add-one i)

pub numbers_end : (n i : ℕ) → n ≤ i → numbers_from i (n - i) ≡ []
unfolding numbers_from
numbers_end n i h = let m : n - i ≡ 0 = omega arith in rw m

pub list_next : (l : List ℕ) (i : ℕ) → i < length l → drop i l ≡ get_or l i 0 ∷ drop (i + 1) l
list_next l i h = rw (add-one i, drop-cons l i 0)

pub list_end : (l : List ℕ) (i : ℕ) → length l ≤ i → drop i l ≡ []
list_end l i h = drop_of_length-le l h
