-- Numbers with commas between: the first, then each of the others behind a comma. For the loops that measure and lay them.
use Prim.Native.Nat.{◌+◌, ◌-◌, ◌<◌, ◌≤◌, ℕ}
use lib.ListN.{drop, get_or, length, length-append, length-drop, take}
use lib.Seq.{take_all}
use mathlib.Core.List.{List, [], ◌++◌, ◌∷◌}
use mathlib.Core.Path.{◌∙◌, ◌≡◌, ap, sym}
use native.Mathlib.Omega.{arith}
use Rattle.definitions.specs.Bytes.{comma}
use Rattle.definitions.specs.Numbers.{decimal, decimals}
use Rattle.kv_write.proofs.Joined.{each_end, each_next, each_after, joined_first, joined_none}
use Rattle.kv_write.proofs.Laying.{Left, one, recast}
use Rattle.kv_write.specs.Laid.{Laid}

-- each number behind a comma
pub behind : List ℕ → List ℕ
behind = each_after comma decimal

pub no_numbers : (ns : List ℕ) → length ns ≡ 0 → decimals ns ≡ []
unfolding decimals
no_numbers = joined_none comma decimal

-- all but the first, as a loop over `&numbers[1..]` has them
abbrev pub others : List ℕ → List ℕ
others ns = take (length ns - 1) (drop 1 ns)

pub others_are : (ns : List ℕ) → others ns ≡ drop 1 ns
others_are ns = take_all (length ns - 1) (drop 1 ns) (omega (arith, length-drop 1 ns))

pub first_then : (ns : List ℕ) → 0 < length ns → decimals ns ≡ decimal (get_or ns 0 0) ++ behind (others ns)
unfolding decimals behind
first_then ns h =
    joined_first comma decimal ns 0 (λ e. omega arith) ∙ ap (λ (l : List ℕ). decimal (get_or ns 0 0) ++ each_after comma decimal l) (sym (others_are ns))

pub next_then : (ns : List ℕ) (i : ℕ) → i < length ns → behind (drop i ns) ≡ 44 ∷ decimal (get_or ns i 0) ++ behind (drop (i + 1) ns)
unfolding behind comma
next_then ns i = each_next comma decimal ns 0 i

pub none_behind : (ns : List ℕ) (i : ℕ) → length ns ≤ i → behind (drop i ns) ≡ []
unfolding behind
none_behind ns i = each_end comma decimal ns i

-- a turn begins with a comma
pub comma_laid : {d₀ all d d' : List ℕ} {at₀ at at' : ℕ} (ns : List ℕ) (i : ℕ) → i < length ns → Laid d at (44 ∷ []) d' at'
    → Left d₀ at₀ all d at (behind (drop i ns)) → Left d₀ at₀ all d' at' (decimal (get_or ns i 0) ++ behind (drop (i + 1) ns))
comma_laid ns i h p l = one p (recast (next_then ns i h) l)

-- the lengths

pub length_others : (ns : List ℕ) → length (others ns) ≡ length ns - 1
length_others ns = ap length (others_are ns) ∙ length-drop 1 ns

pub length_first : (ns : List ℕ) → 0 < length ns → length (decimals ns) ≡ length (decimal (get_or ns 0 0)) + length (behind (others ns))
length_first ns h = ap length (first_then ns h) ∙ length-append (decimal (get_or ns 0 0)) (behind (others ns))

pub length_next : (ns : List ℕ) (i : ℕ) → i < length ns
    → length (behind (drop i ns)) ≡ 1 + length (decimal (get_or ns i 0)) + length (behind (drop (i + 1) ns))
length_next ns i h = omega (arith, ap length (next_then ns i h), length-append (decimal (get_or ns i 0)) (behind (drop (i + 1) ns)))

pub length_none : (ns : List ℕ) (i : ℕ) → length ns ≤ i → length (behind (drop i ns)) ≡ 0
length_none ns i h = ap length (none_behind ns i h)
