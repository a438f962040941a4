-- The entries after all sites are stored: the row of each sample's first site.
use Prim.Native.Nat.{◌+◌, ◌<◌, suc, zero, ℕ}
use borrow.Author.Tests.{eqb-false, eqb-true}
use lib.Dec.{eqb}
use lib.ListN.{get_or, length, length-set, set}
use lib.Seq.{ext_get_or, get_or-set_other, get_or-set_same}
use mathlib.Core.Bool.{Bool, cond, false, true}
use mathlib.Core.List.{List, [], ◌∷◌}
use mathlib.Core.Option
use mathlib.Core.Option.{Option, map, some}
use mathlib.Core.Path.{◌∙◌, ◌≡◌, ap, refl, sym}
use native.Mathlib.Nat.{add-zero, zero-add}
use native.Mathlib.Omega.{arith}
use Rattle.definitions.specs.Lists.{first_where}
use Rattle.found_sites.specs.Own.{own_row, own_rows, put_all, put_own}
use Rattle.found_sites.specs.declared.Found.{Found}

put_at : (found : Found) (own : List ℕ) (k : ℕ) → k < length own
    → get_or (put_own found own) k 0 ≡ cond (eqb found.sample.0 k) found.row (get_or own k 0)
unfolding put_own
put_at found own k h = go (eqb sample k) refl
  where
    sample : ℕ
    sample = found.sample.0

    go : (t : Bool) → eqb sample k ≡ t → get_or (set own sample found.row) k 0 ≡ cond t found.row (get_or own k 0)
    go true e = let i : sample ≡ k = eqb-true sample k e in rw i (get_or-set_same own k found.row 0 h)
    go false e = get_or-set_other own sample k found.row 0 (λ i. eqb-false sample k e (sym i))

all_length : (list : List Found) (own : List ℕ) → length (put_all list own) ≡ length own
unfolding put_all put_own
all_length [] own = refl
all_length (x ∷ list) own = length-set (put_all list own) x.sample.0 x.row ∙ all_length list own

pub own_length : (list : List Found) (first : ℕ) (own : List ℕ) → length (own_rows list first own) ≡ length own
unfolding own_rows
own_length list first [] = refl
own_length list first (n ∷ own) = ap suc (own_length list (suc first) own)

-- the entry at k
own_at : (list : List Found) (first : ℕ) (own : List ℕ) (k : ℕ) → k < length own
    → get_or (own_rows list first own) k 0 ≡ Option.get_or (own_row list (first + k)) (get_or own k 0)
unfolding own_rows
own_at list first [] k h = absurd (omega arith)
own_at list first (n ∷ own) zero h = rw add-zero
own_at list first (n ∷ own) (suc k) h =
    let e : suc first + k ≡ first + suc k = omega arith in
    rw (← e) (own_at list (suc first) own k (omega arith))

stored_at : (list : List Found) (own : List ℕ) (k : ℕ) → k < length own → get_or (put_all list own) k 0 ≡ Option.get_or (own_row list k) (get_or own k 0)
unfolding put_all first_where
stored_at [] own k h = refl
stored_at (x ∷ list) own k h =
    let long = all_length list own in
    put_at x _ k (omega arith) ∙ go _ (eqb _ k) (stored_at list own k h)
  where
    go : {n : ℕ} (r : Option Found) (t : Bool) → n ≡ Option.get_or (map (λ (f : Found). f.row) r) (get_or own k 0)
        → cond t x.row n ≡ Option.get_or (map (λ (f : Found). f.row) (cond t (some x) r)) (get_or own k 0)
    go r true e = refl
    go r false e = e

pub all_own : (list : List Found) (own : List ℕ) → put_all list own ≡ own_rows list 0 own
all_own list own =
    let long = all_length list own in
    ext_get_or 0 _ _ (long ∙ sym (own_length list 0 own))
    (λ k h. stored_at list own k (omega arith) ∙ sym (own_at list 0 own k (omega arith) ∙ rw zero-add))
