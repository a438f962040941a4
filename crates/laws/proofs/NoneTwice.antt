-- Lists of numbers with none twice: those with the same members are as long (`as_many`), and so is what is put together of runs that have
-- different owners (`runs_once`).
use Prim.Native.Nat.{Ordering, compare, suc, ℕ}
use lib.ListN.{length}
use mathlib.Core.List.Memᴰ
use mathlib.Core.List.{List, [], ◌∷◌, flat_map}
use mathlib.Core.Logic.{◌≢◌}
use mathlib.Core.Path.{◌∙◌, ◌≡◌, ap, refl, sym}
use native.Mathlib.Omega.{arith}
use Rattle.definitions.specs.Lists.{ascending, by_order, insert_new, numbers_from}
use Rattle.laws.proofs.Every.{Pairwise, alone, before_all, every_member, every_of, numbers_ascend, pairwise_append, pairwise_map}
use Rattle.laws.proofs.Members.{◌∈◌, member_flat_map}
use Rattle.laws.proofs.Orders.{ascending_same, compare_eq, member_ascending}

abbrev pub Once : List ℕ → Type 0
Once = Pairwise ◌≢◌

-- ---- as many

insert_longer : (x : ℕ) (l : List ℕ) → ((y : ℕ) → y ∈ l → x ≢ y) → length (insert_new compare x l) ≡ suc (length l)
unfolding insert_new by_order
insert_longer x [] new = refl
insert_longer x (y ∷ l) new = go (compare x y) refl (insert_longer x l (λ z m. new z (Memᴰ.tail m)))
  where
    go : (o : Ordering) → compare x y ≡ o → length (insert_new compare x l) ≡ suc (length l)
        → length (by_order o (x ∷ y ∷ l) (y ∷ l) (y ∷ insert_new compare x l)) ≡ suc (suc (length l))
    go Ordering.lt e r = refl
    go Ordering.eq e r = absurd (new y (Memᴰ.head refl) (compare_eq x y e))
    go Ordering.gt e r = ap suc r

-- in ascending order they are as many
once_ascending : {l : List ℕ} → Once l → length (ascending compare l) ≡ length l
unfolding ascending
once_ascending alone = refl
once_ascending (before_all {x = x} {xs = l} h hs) =
    insert_longer x (ascending compare l) (λ y m. every_member (member_ascending compare l m) h) ∙ ap suc (once_ascending hs)

pub as_many : {xs ys : List ℕ} → Once xs → Once ys → ((x : ℕ) → x ∈ xs → x ∈ ys) → ((x : ℕ) → x ∈ ys → x ∈ xs) → length xs ≡ length ys
as_many {xs} {ys} h k f g = sym (once_ascending h) ∙ ap length (ascending_same xs ys f g) ∙ once_ascending k

-- ---- numbers and runs

pub numbers_once : (first count : ℕ) → Once (numbers_from first count)
numbers_once first count = pairwise_map (λ i j h same. omega (arith, h, same)) (numbers_ascend first count)

module _ (run : ℕ → List ℕ) (owner : ℕ → ℕ) (once : (x : ℕ) → Once (run x)) (own : (x i : ℕ) → i ∈ run x → owner i ≡ x) where
  -- runs one behind the other, each element in the run of its owner
  pub runs_once : {xs : List ℕ} → Once xs → Once (flat_map run xs)
  unfolding flat_map
  runs_once alone = alone
  runs_once (before_all {x = x} {xs = xs} h hs) =
      pairwise_append (once x) (runs_once hs) (every_of (run x) (λ i m. every_of (flat_map run xs) (λ j n. apart i j m n)))
    where
      apart : (i j : ℕ) → i ∈ run x → j ∈ flat_map run xs → i ≢ j
      apart i j m n same =
          let (y, k, o) = member_flat_map run xs n in
          every_member k h (sym (own x i m) ∙ ap owner same ∙ own y j o)
