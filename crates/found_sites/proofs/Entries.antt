-- The entries of samples, stored one by one.
use Prim.Native.Nat.{◌+◌, ◌<◌, ◌≤◌, suc, ℕ}
use denote.Ref.{Bor}
use lib.ListN.{drop, drop_of_length-le, get_or, length, set, take}
use lib.Seq.{drop-cons, sets, sets-eq, take-append_seam}
use mathlib.Core.List.{List, [], ◌++◌, ◌∷◌, map, map-append, reverse, reverse-append}
use mathlib.Core.Path.{◌∙◌, ◌≡◌, ap, refl, sym}
use native.Mathlib.Numerals.{add-one}
use native.Mathlib.Omega.{arith}
use Rattle.found_sites.specs.Own.{found_at, found_list, put_all, put_own}
use Rattle.found_sites.specs.declared.Found.{Found}

-- ---- the list

module _ (sites owners : List ℕ) (same : length sites ≡ length owners) (list : List Found) (i : ℕ) where
  pub gather_next : i < length owners
      → sets (set list i (found_at (get_or sites i 0) (get_or owners i 0))) (i + 1) (found_list (drop (i + 1) sites) (drop (i + 1) owners))
      ≡ sets list i (found_list (drop i sites) (drop i owners))
  unfolding found_list
  gather_next h = let h' : i < length sites = omega arith in rw (drop-cons sites i 0 h', drop-cons owners i 0 h, add-one i)

  pub gather_end : length owners ≤ i → list ≡ sets list i (found_list (drop i sites) (drop i owners))
  unfolding found_list
  gather_end h = let h' : length sites ≤ i = omega arith in rw (drop_of_length-le sites h')

pub found_count : (sites owners : List ℕ) → length sites ≡ length owners → length (found_list sites owners) ≡ length owners
unfolding found_list
found_count [] [] e = refl
found_count [] (sample ∷ owners) e = e
found_count (row ∷ sites) [] e = refl
found_count (row ∷ sites) (sample ∷ owners) e = ap suc (found_count sites owners (omega arith))

-- ---- the list's sites stored, the last one first

-- one more item in front of those that were yielded, in reverse
reverse_more : {A B : Type 0} (v : A → B) (xs : List A) (x : A) → reverse (map v (xs ++ (x ∷ []))) ≡ v x ∷ reverse (map v xs)
reverse_more v xs x = ap reverse (map-append v xs (x ∷ [])) ∙ reverse-append (map v xs) (v x ∷ [])

pub store_more : (own₀ : List ℕ) {own own' : List ℕ} {sample : ℕ} (xs : List (Bor Found)) (x : Bor Found) → own ≡ put_all (reverse (map (λ f. f.now) xs)) own₀
    → sample ≡ x.now.sample.0 → own' ≡ set own sample x.now.row → own' ≡ put_all (reverse (map (λ f. f.now) (xs ++ (x ∷ [])))) own₀
unfolding put_all put_own
store_more own₀ xs x e s h = rw (h, s, e) (sym (ap (λ l. put_all l own₀) (reverse_more (λ (f : Bor Found). f.now) xs x)))

-- those that were stored at the list's beginning
pub take_gathered : (list found : List Found) → length found ≤ length list → take (length found) (sets list 0 found) ≡ found
take_gathered list found h = rw (sets-eq found list 0 (omega arith), take-append_seam)
