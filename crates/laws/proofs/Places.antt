-- Places: a number of 64 bits that holds a position above and, in its lower 32 bits, 2^31 with the change of depth there. Places of one
-- position are joined into one, their changes added. Sorted and joined they are `places` (`join_sorted`): for each position in ascending
-- order the place with all changes there. Joining some of them earlier changes nothing (`places_again`), nor does leaving out positions
-- before or after (`places_filter`).
use Prim.Native.Nat.{◌*◌, ◌+◌, ◌-◌, ◌/◌, ◌%◌, ◌<◌, ◌≤◌, compare, suc, ℕ}
use borrow.Author.Tests.{eq-eqb, eqb-false, eqb-true, ne_eqb}
use lib.Dec.{eqb, leb}
use lib.ListN.{length}
use mathlib.Core.Bool.{Bool, cond, false, true}
use mathlib.Core.List.Memᴰ
use mathlib.Core.List.{List, [], ◌++◌, ◌∷◌, append-nil, foldr, map, map-append}
use mathlib.Core.Logic.{⊎_elim}
use mathlib.Core.Path.{◌∙◌, ◌≡◌, ap, refl, subst, sym}
use native.Mathlib.Decide.{ℕ_discrete}
use native.Mathlib.Omega.{arith}
use Rattle.definitions.specs.Lists.{any_of, ascending, by_order, filter_by, insert_new}
use Rattle.laws.proofs.Every.{Every, Pairwise, alone, also, before_all, every_all, every_fails, every_map, every_member, every_of_map, every_of_map_back, filter_passes, map_every, nothing, pairwise_map}
use Rattle.laws.proofs.Members.{◌∈◌, any_member, cons_cases, filter_by_map, filter_no, filter_same, filter_yes, member_map}
use Rattle.laws.proofs.Orders.{ascending_member, ascending_numbers, ascending_same, compare_eq, every_ascending, filter_ascending, lt_compare, member_ascending}
use Rattle.laws.proofs.Sorted.{insert, member_sorted, sorted, sorted_ascends, sorted_member}
use Rattle.laws.proofs.Tests.{told_apart}

-- the lower part of a place where the depth does not change: 2^31
abbrev pub no_change : ℕ
no_change = 2147483648

-- the position of a place
abbrev pub position : ℕ → ℕ
position e = e / 4294967296

-- 2^31 and the change of depth there
abbrev pub low_part : ℕ → ℕ
low_part e = e % 4294967296

-- the place of a position with this lower part
abbrev pub place_at : ℕ → ℕ → ℕ
place_at p low = p * 4294967296 + low

-- a place with the change of another of its position added
abbrev pub joined : ℕ → ℕ → ℕ
joined a b = a + low_part b - no_change

-- a place and those behind it, neighbours of one position joined
unfoldable pub join_from : ℕ → List ℕ → List ℕ
join_from a [] = a ∷ []
join_from a (b ∷ l) =
    let one = join_from (joined a b) l in
    let two = a ∷ join_from b l in
    cond (eqb (position a) (position b)) one two

-- the places, neighbours of one position joined
unfoldable pub join_places : List ℕ → List ℕ
join_places [] = []
join_places (a ∷ l) = join_from a l

-- 2^31 and all changes at a position
unfoldable pub low_at : ℕ → List ℕ → ℕ
low_at p = foldr (λ e low. cond (eqb (position e) p) (low + low_part e - no_change) low) no_change

-- for each position in ascending order, the place with all changes there
unfoldable pub places : List ℕ → List ℕ
places es = map (λ p. place_at p (low_at p es)) (ascending compare (map position es))

-- how much a place changes the depth, up or down
abbrev pub weight : ℕ → ℕ
weight e = (low_part e - no_change) + (no_change - low_part e)

-- how much all of them could change it; below 2^31 no sum of changes leaves the lower part
unfoldable pub weights : List ℕ → ℕ
weights = foldr (λ e w. weight e + w) 0

-- ---- how many are left

join_from_few : (a : ℕ) (l : List ℕ) → (0 < length (join_from a l)) × (length (join_from a l) ≤ suc (length l))
unfolding join_from
join_from_few a [] = (omega arith, omega arith)
join_from_few a (b ∷ l) = go (eqb (position a) (position b)) (join_from_few (joined a b) l) (join_from_few b l)
  where
    Few : List ℕ → Type 0
    Few k = (0 < length k) × (length k ≤ suc (length l))

    go : (t : Bool) → Few (join_from (joined a b) l) → Few (join_from b l)
        → let k = cond t (join_from (joined a b) l) (a ∷ join_from b l) in (0 < length k) × (length k ≤ suc (suc (length l)))
    go true (h, k) other = (h, omega arith)
    go false other (h, k) = (omega arith, omega arith)

pub join_few : (l : List ℕ) → length (join_places l) ≤ length l
unfolding join_places
join_few [] = omega arith
join_few (a ∷ l) = (join_from_few a l).1

pub join_some : (l : List ℕ) → 0 < length l → 0 < length (join_places l)
unfolding join_places
join_some [] h = absurd (omega arith)
join_some (a ∷ l) h = (join_from_few a l).0

-- ---- the parts of a place

pub position_at : (p low : ℕ) → low < 4294967296 → position (place_at p low) ≡ p
position_at p low h = omega arith

pub low_part_at : (p low : ℕ) → low < 4294967296 → low_part (place_at p low) ≡ low
low_part_at p low h = omega arith

pub parts : (e : ℕ) → place_at (position e) (low_part e) ≡ e
parts e = omega arith

position_up : (a b : ℕ) → a ≤ b → position a ≤ position b
position_up a b h = omega arith

-- ---- all changes at a position

low_here : (p e : ℕ) (es : List ℕ) → position e ≡ p → low_at p (e ∷ es) ≡ low_at p es + low_part e - no_change
unfolding low_at
low_here p e es h = rw (eq-eqb (position e) p h)

low_other : (p e : ℕ) (es : List ℕ) → (position e ≡ p → ⊥) → low_at p (e ∷ es) ≡ low_at p es
unfolding low_at
low_other p e es h = rw (ne_eqb (position e) p h)

pub low_place : (p b low : ℕ) (es : List ℕ) → low < 4294967296
    → low_at p (place_at b low ∷ es) ≡ cond (eqb b p) (low_at p es + low - no_change) (low_at p es)
unfolding low_at
low_place p b low es h = rw (position_at b low h, low_part_at b low h)

-- it is not farther from 2^31 than the weight of all
pub low_near : (p : ℕ) (es : List ℕ) → (low_at p es ≤ no_change + weights es) × (no_change ≤ low_at p es + weights es)
unfolding low_at weights
low_near p [] = (omega arith, omega arith)
low_near p (e ∷ es) = go (eqb (position e) p) (low_near p es)
  where
    go : (b : Bool) → (low_at p es ≤ no_change + weights es) × (no_change ≤ low_at p es + weights es)
        → let low = cond b (low_at p es + low_part e - no_change) (low_at p es) in
        (low ≤ no_change + (weight e + weights es)) × (no_change ≤ low + (weight e + weights es))
    go true (h, k) = (omega arith, omega arith)
    go false (h, k) = (omega arith, omega arith)

-- where no place is, the depth does not change
pub low_absent : (p : ℕ) (es : List ℕ) → Every (λ e. position e ≡ p → ⊥) es → low_at p es ≡ no_change
unfolding low_at
low_absent p [] h = refl
low_absent p (e ∷ es) (also h hs) = low_other p e es h ∙ low_absent p es hs

-- with a weight below 2^31 nothing is lost in taking 2^31 away
enough : (low part w : ℕ) → no_change ≤ low + w → (part - no_change) + (no_change - part) + w < no_change → no_change ≤ low + part
enough low part w h k = omega arith

swapped : (low a b : ℕ) → no_change ≤ low + a → no_change ≤ low + b
    → low + b - no_change + a - no_change ≡ low + a - no_change + b - no_change
swapped low a b h k = omega arith

-- two places in the other order
low_swap : (p a b : ℕ) (es : List ℕ) → weights (a ∷ b ∷ es) < no_change → low_at p (a ∷ b ∷ es) ≡ low_at p (b ∷ a ∷ es)
unfolding low_at weights
low_swap p a b es h = go (eqb (position a) p) (eqb (position b) p) (low_near p es)
  where
    low : ℕ
    low = low_at p es

    go : (s t : Bool) → (low ≤ no_change + weights es) × (no_change ≤ low + weights es)
        → let l = cond t (low + low_part b - no_change) low in
        let m = cond s (low + low_part a - no_change) low in
        cond s (l + low_part a - no_change) l ≡ cond t (m + low_part b - no_change) m
    go true true (u, v) =
        swapped low (low_part a) (low_part b)
        (enough low (low_part a) (weights es) v (omega arith)) (enough low (low_part b) (weights es) v (omega arith))
    go true false (u, v) = refl
    go false true (u, v) = refl
    go false false (u, v) = refl

pub weights_append : (l m : List ℕ) → weights (l ++ m) ≡ weights l + weights m
unfolding weights
weights_append [] m = omega arith
weights_append (e ∷ l) m = omega (arith, weights_append l m)

weights_insert : (x : ℕ) (l : List ℕ) → weights (insert x l) ≡ weights (x ∷ l)
unfolding weights insert
weights_insert x [] = refl
weights_insert x (y ∷ l) = go (leb x y) (weights_insert x l)
  where
    go : (b : Bool) → weights (insert x l) ≡ weight x + weights l
        → weights (cond b (x ∷ y ∷ l) (y ∷ insert x l)) ≡ weight x + (weight y + weights l)
    go true e = refl
    go false e = omega arith

pub weights_sorted : (l : List ℕ) → weights (sorted l) ≡ weights l
unfolding sorted weights
weights_sorted [] = refl
weights_sorted (x ∷ l) = weights_insert x (sorted l) ∙ ap (λ (w : ℕ). weight x + w) (weights_sorted l)

-- each with the same place in front
low_under : (p e : ℕ) (l m : List ℕ) → low_at p l ≡ low_at p m → low_at p (e ∷ l) ≡ low_at p (e ∷ m)
unfolding low_at
low_under p e l m h = ap (λ (low : ℕ). cond (eqb (position e) p) (low + low_part e - no_change) low) h

low_insert : (p x : ℕ) (l : List ℕ) → weights (x ∷ l) < no_change → low_at p (insert x l) ≡ low_at p (x ∷ l)
unfolding insert
low_insert p x [] h = refl
low_insert p x (y ∷ l) h = go (leb x y) (low_insert p x l (unfold weights in omega arith))
  where
    go : (b : Bool) → low_at p (insert x l) ≡ low_at p (x ∷ l)
        → low_at p (cond b (x ∷ y ∷ l) (y ∷ insert x l)) ≡ low_at p (x ∷ y ∷ l)
    go true e = refl
    go false e = low_under p y (insert x l) (x ∷ l) e ∙ low_swap p y x l (unfold weights in omega arith)

low_sorted : (p : ℕ) (es : List ℕ) → weights es < no_change → low_at p (sorted es) ≡ low_at p es
unfolding sorted
low_sorted p [] h = refl
low_sorted p (x ∷ l) h =
    low_insert p x (sorted l) (unfold weights in omega (arith, weights_sorted l))
    ∙ low_under p x (sorted l) l (low_sorted p l (unfold weights in omega arith))

-- ---- places by position

-- the place of a position, with all changes of these places
abbrev of : List ℕ → ℕ → ℕ
of es p = place_at p (low_at p es)

module _ (es : List ℕ) (light : weights es < no_change) where
  low_fits : (p : ℕ) → low_at p es < 4294967296
  low_fits p = let (h, k) = low_near p es in omega arith

  position_of : (p : ℕ) → position (of es p) ≡ p
  position_of p = position_at p (low_at p es) (low_fits p)

  low_of : (p : ℕ) → low_part (of es p) ≡ low_at p es
  low_of p = low_part_at p (low_at p es) (low_fits p)

  positions_of : (ps : List ℕ) → map position (map (of es) ps) ≡ ps
  positions_of [] = refl
  positions_of (p ∷ ps) = rw (position_of p) (ap (λ (l : List ℕ). p ∷ l) (positions_of ps))

places_none : places [] ≡ []
unfolding places ascending
places_none = refl

-- places with the same positions and the same changes
pub places_same : (es fs : List ℕ) → ((p : ℕ) → p ∈ map position es → p ∈ map position fs)
    → ((p : ℕ) → p ∈ map position fs → p ∈ map position es) → ((p : ℕ) → low_at p es ≡ low_at p fs)
    → places es ≡ places fs
unfolding places
places_same es fs f g h =
    map_every (every_all (λ p. ap (place_at p) (h p)) (ascending compare (map position es)))
    ∙ ap (map (of fs)) (ascending_same (map position es) (map position fs) f g)

-- ---- one place more

module _ (a : ℕ) (l : List ℕ) (light : weights (a ∷ l) < no_change) where
  behind_light : weights l < no_change
  behind_light = unfold weights in omega arith

  -- it changes nothing at other positions
  others : {ps : List ℕ} → Every (λ p. position a ≡ p → ⊥) ps → map (of l) ps ≡ map (of (a ∷ l)) ps
  others h = map_every (every_map (λ p k. ap (place_at p) (sym (low_other p a l k))) h)

  -- alone at its position it is the place there
  alone_of : Every (λ e. position e ≡ position a → ⊥) l → of (a ∷ l) (position a) ≡ a
  alone_of h =
      let none_there = low_absent (position a) l h in
      let low : low_at (position a) (a ∷ l) ≡ low_part a = low_here (position a) a l refl ∙ omega arith in
      ap (place_at (position a)) low ∙ parts a

  -- in front of later ones it stands first
  first_of : Every (λ e. position a < position e) l → places (a ∷ l) ≡ a ∷ places l
  unfolding places ascending
  first_of later = go (ascending compare (map position l)) (every_ascending compare _ (every_of_map position later))
    where
      first : (qs : List ℕ) → Every (λ q. position a < q) qs → insert_new compare (position a) qs ≡ position a ∷ qs
      first [] h = unfold insert_new in refl
      first (q ∷ qs) (also h hs) = unfold insert_new by_order in rw (lt_compare (position a) q h)

      go : (qs : List ℕ) → Every (λ q. position a < q) qs → map (of (a ∷ l)) (insert_new compare (position a) qs) ≡ a ∷ map (of l) qs
      go qs h =
          ap (map (of (a ∷ l))) (first qs h)
          ∙ ap (λ (z : ℕ). z ∷ map (of (a ∷ l)) qs) (alone_of (every_map (λ e k same. omega arith) later))
          ∙ ap (λ (z : List ℕ). a ∷ z) (sym (others (every_map (λ q k same. omega arith) h)))

-- ---- two places joined

-- the changes of two light places fit into the lower part
pub two_fit : (x y : ℕ) → (x - no_change) + (no_change - x) + ((y - no_change) + (no_change - y)) < no_change
    → (no_change ≤ x + y) × (x + y - no_change < 4294967296)
two_fit x y h = (omega arith, omega arith)

module _ (a b : ℕ) (light : weight a + weight b < no_change) where
  joined_parts : joined a b ≡ place_at (position a) (low_part a + low_part b - no_change)
  joined_parts = let (h, k) = two_fit (low_part a) (low_part b) light in omega (arith, parts a)

  pub position_joined : position (joined a b) ≡ position a
  position_joined =
      ap (λ (e : ℕ). position e) joined_parts ∙ position_at (position a) (low_part a + low_part b - no_change) (two_fit (low_part a) (low_part b) light).1

  low_joined : low_part (joined a b) + no_change ≡ low_part a + low_part b
  low_joined =
      let (h, k) = two_fit (low_part a) (low_part b) light in
      let low : low_part (joined a b) ≡ low_part a + low_part b - no_change =
      ap (λ (e : ℕ). low_part e) joined_parts ∙ low_part_at (position a) (low_part a + low_part b - no_change) k in
      omega arith

-- two changes together are no more than each by itself
together : (x y z : ℕ) → z + no_change ≡ x + y
    → (z - no_change) + (no_change - z) ≤ ((x - no_change) + (no_change - x)) + ((y - no_change) + (no_change - y))
together x y z h = omega arith

module _ (a b : ℕ) (l : List ℕ) (same : position a ≡ position b) (light : weights (a ∷ b ∷ l) < no_change) where
  pub two_light : weight a + weight b < no_change
  two_light = unfold weights in omega arith

  pub joined_light : weights (joined a b ∷ l) ≤ weights (a ∷ b ∷ l)
  unfolding weights
  joined_light = omega (arith, together (low_part a) (low_part b) (low_part (joined a b)) (low_joined a b two_light))

  -- a place in the stead of two
  joined_places : places (joined a b ∷ l) ≡ places (a ∷ b ∷ l)
  joined_places = places_same (joined a b ∷ l) (a ∷ b ∷ l) forth back low
    where
      at : position (joined a b) ≡ position a
      at = position_joined a b two_light

      forth : (p : ℕ) → p ∈ map position (joined a b ∷ l) → p ∈ map position (a ∷ b ∷ l)
      forth p m = cons_cases m (λ q. Memᴰ.head (q ∙ at)) (λ n. Memᴰ.tail (Memᴰ.tail n))

      back : (p : ℕ) → p ∈ map position (a ∷ b ∷ l) → p ∈ map position (joined a b ∷ l)
      back p m =
          cons_cases m (λ q. Memᴰ.head (q ∙ sym at))
          (λ n. cons_cases n (λ q. Memᴰ.head (q ∙ sym same ∙ sym at)) (λ k. Memᴰ.tail k))

      low : (p : ℕ) → low_at p (joined a b ∷ l) ≡ low_at p (a ∷ b ∷ l)
      low p = go (ℕ_discrete (position a) p)
        where
          go : Dec (position a ≡ p) → low_at p (joined a b ∷ l) ≡ low_at p (a ∷ b ∷ l)
          go (yes here) =
              let (u, v) = low_near p l in
              let room = enough (low_at p l) (low_part b) (weights l) v (unfold weights in omega arith) in
              low_here p (joined a b) l (at ∙ here)
              ∙ omega (arith, low_joined a b two_light, low_here p a (b ∷ l) here, low_here p b l (sym same ∙ here))
          go (no other) =
              low_other p (joined a b) l (λ q. other (sym at ∙ q))
              ∙ sym (low_other p a (b ∷ l) other ∙ low_other p b l (λ q. other (same ∙ q)))

-- ---- sorted and joined

join_from_lem : (a : ℕ) (l : List ℕ) → Every (λ e. position a ≤ position e) l → Pairwise (λ a b. position a ≤ position b) l
    → weights (a ∷ l) < no_change → join_from a l ≡ places (a ∷ l)
unfolding join_from
join_from_lem a [] h k light = sym (first_of a [] light nothing ∙ ap (λ (l : List ℕ). a ∷ l) places_none)
join_from_lem a (b ∷ l) (also h hs) (before_all k ks) light =
    go (eqb (position a) (position b)) refl (λ up. join_from_lem (joined a b) l up ks) (join_from_lem b l k ks (behind_light a (b ∷ l) light))
  where
    Joins : ℕ → Type 0
    Joins c = join_from c l ≡ places (c ∷ l)

    go : (t : Bool) → eqb (position a) (position b) ≡ t
        → (Every (λ e. position (joined a b) ≤ position e) l → weights (joined a b ∷ l) < no_change → Joins (joined a b)) → Joins b
        → cond t (join_from (joined a b) l) (a ∷ join_from b l) ≡ places (a ∷ b ∷ l)
    go true e both one =
        let same = eqb-true (position a) (position b) e in
        let at = position_joined a b (two_light a b l same light) in
        both (every_map (λ c q. omega arith) hs) (omega (arith, joined_light a b l same light)) ∙ joined_places a b l same light
    go false e both one =
        let apart = eqb-false (position a) (position b) e in
        let less : position a < position b = omega arith in
        ap (λ (l : List ℕ). a ∷ l) one
        ∙ sym (first_of a (b ∷ l) light (also less (every_map (λ c q. omega arith) k)))

pub join_ascending : {l : List ℕ} → Pairwise ◌≤◌ l → weights l < no_change → join_places l ≡ places l
unfolding join_places
join_ascending alone light = sym places_none
join_ascending (before_all {x = a} {xs = l} h hs) light =
    join_from_lem a l (every_map (position_up a) h) (pairwise_map position_up hs) light

-- positions of places
position_member : (l m : List ℕ) → ((e : ℕ) → e ∈ l → e ∈ m) → (p : ℕ) → p ∈ map position l → p ∈ map position m
position_member l m f p n =
    let (e, k, same) = member_map position l n in
    subst (λ (q : ℕ). q ∈ map position m) (sym same) (Memᴰ.map position (f e k))

pub places_sorted : (es : List ℕ) → weights es < no_change → places (sorted es) ≡ places es
places_sorted es light =
    places_same (sorted es) es (position_member (sorted es) es (λ e. member_sorted es)) (position_member es (sorted es) (λ e. sorted_member es))
    (λ p. low_sorted p es light)

-- places that are sorted and joined
pub join_sorted : (es : List ℕ) → weights es < no_change → join_places (sorted es) ≡ places es
join_sorted es light =
    let still : weights (sorted es) < no_change = rw (weights_sorted es) light in
    join_ascending (sorted_ascends es) still ∙ places_sorted es light

-- ---- joined again, with more

pub low_append : (p : ℕ) (l m : List ℕ) → weights (l ++ m) < no_change → low_at p (l ++ m) + no_change ≡ low_at p l + low_at p m
unfolding low_at
low_append p [] m light = omega arith
low_append p (e ∷ l) m light = go (eqb (position e) p) (low_append p l m (behind_light e (l ++ m) light))
  where
    go : (b : Bool) → low_at p (l ++ m) + no_change ≡ low_at p l + low_at p m
        → cond b (low_at p (l ++ m) + low_part e - no_change) (low_at p (l ++ m)) + no_change
        ≡ cond b (low_at p l + low_part e - no_change) (low_at p l) + low_at p m
    go true h =
        let (s, t) = low_near p (l ++ m) in
        let (u, v) = low_near p l in
        let all = weights_append l m in
        let a = enough (low_at p (l ++ m)) (low_part e) (weights (l ++ m)) t (unfold weights in omega arith) in
        let b = enough (low_at p l) (low_part e) (weights l) v (unfold weights in omega arith) in
        omega arith
    go false h = h

-- at each position the changes of all places are those of the joined ones
module _ (p : ℕ) (es : List ℕ) (light : weights es < no_change) where
  low_of_all : {qs : List ℕ} → Pairwise ◌<◌ qs → p ∈ qs → low_at p (map (of es) qs) ≡ low_at p es
  low_of_all alone m = absurd (Memᴰ.not-nil m)
  low_of_all (before_all {x = q} {xs = r} h hs) m = cons_cases m here (λ n. other n (low_of_all hs n))
    where
      here : p ≡ q → low_at p (of es q ∷ map (of es) r) ≡ low_at p es
      here same =
          let apart : Every (λ e. position e ≡ p → ⊥) (map (of es) r) =
          every_of_map (of es) (every_map (λ b k at. let is = position_of es light b in omega arith) h) in
          let at_q : position (of es q) ≡ p = position_of es light q ∙ sym same in
          low_here p (of es q) (map (of es) r) at_q
          ∙ omega (arith, low_absent p (map (of es) r) apart, low_of es light q, ap (λ (b : ℕ). low_at b es) same)

      other : p ∈ r → low_at p (map (of es) r) ≡ low_at p es → low_at p (of es q ∷ map (of es) r) ≡ low_at p es
      other n below =
          let k = every_member n h in
          low_other p (of es q) (map (of es) r) (λ at. let is = position_of es light q in omega arith) ∙ below

  pub low_places : low_at p (places es) ≡ low_at p es
  unfolding places
  low_places = go (any_of (eqb p) (map position es)) refl
    where
      qs : List ℕ
      qs = ascending compare (map position es)

      go : (b : Bool) → any_of (eqb p) (map position es) ≡ b → low_at p (map (of es) qs) ≡ low_at p es
      go true e =
          let (a, m, same) = any_member (eqb p) (map position es) e in
          low_of_all (ascending_numbers (map position es))
          (subst (λ (b : ℕ). b ∈ qs) (sym (eqb-true p a same)) (ascending_member compare compare_eq _ m))
      go false e =
          let apart : Every (λ b. b ≡ p → ⊥) (map position es) =
          every_map (λ b k at. eqb-false p b k (sym at)) (every_fails (eqb p) (map position es) e) in
          low_absent p (map (of es) qs) (every_of_map (of es) (every_map (λ b k at. k (sym (position_of es light b) ∙ at))
          (every_ascending compare _ apart)))
          ∙ sym (low_absent p es (every_of_map_back position es apart))

weights_none : (qs : List ℕ) → weights (map (of []) qs) ≡ 0
unfolding weights low_at
weights_none [] = refl
weights_none (q ∷ qs) = omega (arith, weights_none qs, low_part_at q no_change (omega arith))

-- one place more
weights_one : (a : ℕ) (l : List ℕ) → weights (a ∷ l) < no_change → {qs : List ℕ} → Pairwise ◌<◌ qs
    → weights (map (of (a ∷ l)) qs) ≤ weight a + weights (map (of l) qs)
unfolding weights
weights_one a l light alone = omega arith
weights_one a l light (before_all {x = q} {xs = r} h hs) = go (ℕ_discrete (position a) q) (weights_one a l light hs)
  where
    go : Dec (position a ≡ q) → weights (map (of (a ∷ l)) r) ≤ weight a + weights (map (of l) r)
        → weight (of (a ∷ l) q) + weights (map (of (a ∷ l)) r) ≤ weight a + (weight (of l q) + weights (map (of l) r))
    go (yes same) below =
        let rest : map (of l) r ≡ map (of (a ∷ l)) r = others a l light (every_map (λ p k at. omega arith) h) in
        let (u, v) = low_near q l in
        let room = enough (low_at q l) (low_part a) (weights l) v (omega arith) in
        let sum : low_part (of (a ∷ l) q) + no_change ≡ low_part (of l q) + low_part a =
        omega (arith, low_of (a ∷ l) light q, low_here q a l same, low_of l (behind_light a l light) q) in
        rw (← rest) (omega (arith, together (low_part (of l q)) (low_part a) (low_part (of (a ∷ l) q)) sum))
    go (no apart) below = rw (low_other q a l apart) (omega arith)

weights_of : (es : List ℕ) → weights es < no_change → {qs : List ℕ} → Pairwise ◌<◌ qs → weights (map (of es) qs) ≤ weights es
unfolding weights
weights_of [] light {qs} h = omega (arith, weights_none qs)
weights_of (a ∷ l) light h = omega (arith, weights_one a l light h, weights_of l (behind_light a l light) h)

-- joined places weigh no more
pub weights_places : (es : List ℕ) → weights es < no_change → weights (places es) ≤ weights es
unfolding places
weights_places es light = weights_of es light (ascending_numbers (map position es))

-- the positions of joined places
pub places_positions : (es : List ℕ) → weights es < no_change → map position (places es) ≡ ascending compare (map position es)
unfolding places
places_positions es light = positions_of es light (ascending compare (map position es))

pub join_ascends : (es : List ℕ) → weights es < no_change → Pairwise ◌<◌ (map position (join_places (sorted es)))
join_ascends es light = rw (join_sorted es light, places_positions es light) (ascending_numbers (map position es))

-- joining some of the places first changes nothing
pub places_again : (l r : List ℕ) → weights (l ++ r) < no_change → places (places l ++ r) ≡ places (l ++ r)
places_again l r light = places_same (places l ++ r) (l ++ r) forth back low
  where
    light_l : weights l < no_change
    light_l = omega (arith, weights_append l r)

    light_again : weights (places l ++ r) < no_change
    light_again = omega (arith, weights_append l r, weights_append (places l) r, weights_places l light_l)

    forth : (p : ℕ) → p ∈ map position (places l ++ r) → p ∈ map position (l ++ r)
    forth p m = rw (map-append position l r)
        (⊎_elim (λ (n : p ∈ map position (places l)).
        Memᴰ.append_left _ (member_ascending compare _ (subst (λ (k : List ℕ). p ∈ k) (places_positions l light_l) n)))
        (λ (n : p ∈ map position r). Memᴰ.append_right (map position l) n)
        (Memᴰ.append_cases (map position (places l)) (subst (λ (k : List ℕ). p ∈ k) (map-append position (places l) r) m)))

    back : (p : ℕ) → p ∈ map position (l ++ r) → p ∈ map position (places l ++ r)
    back p m = rw (map-append position (places l) r, places_positions l light_l)
        (⊎_elim (λ (n : p ∈ map position l). Memᴰ.append_left _ (ascending_member compare compare_eq _ n))
        (λ (n : p ∈ map position r). Memᴰ.append_right (ascending compare (map position l)) n)
        (Memᴰ.append_cases (map position l) (subst (λ (k : List ℕ). p ∈ k) (map-append position l r) m)))

    low : (p : ℕ) → low_at p (places l ++ r) ≡ low_at p (l ++ r)
    low p = omega (arith, low_append p (places l) r light_again, low_append p l r light, low_places p l light_l)

pub places_places : (es : List ℕ) → weights es < no_change → places (places es) ≡ places es
places_places es light =
    let same : weights (es ++ []) < no_change = rw (append-nil es) light in
    ap places (sym (append-nil (places es))) ∙ places_again es [] same ∙ ap places (append-nil es)

-- ---- positions left out

-- the changes at a position that is kept
low_filter : (q : ℕ → Bool) (p : ℕ) (es : List ℕ) → q p ≡ true → low_at p (filter_by (λ e. q (position e)) es) ≡ low_at p es
low_filter q p [] h = unfold filter_by in refl
low_filter q p (e ∷ es) h = go (q (position e)) refl (low_filter q p es h)
  where
    kept : List ℕ → List ℕ
    kept = filter_by (λ e. q (position e))

    go : (b : Bool) → q (position e) ≡ b → low_at p (kept es) ≡ low_at p es → low_at p (kept (e ∷ es)) ≡ low_at p (e ∷ es)
    go true k r = rw (filter_yes (λ e. q (position e)) e es k) (low_under p e (kept es) es r)
    go false k r =
        rw (filter_no (λ e. q (position e)) e es k) (r ∙ sym (low_other p e es (λ at. told_apart q h k (sym at))))

-- positions left out before or after joining
pub places_filter : (q : ℕ → Bool) (es : List ℕ) → weights es < no_change
    → filter_by (λ e. q (position e)) (places es) ≡ places (filter_by (λ e. q (position e)) es)
unfolding places
places_filter q es light =
    let test : ℕ → Bool = λ e. q (position e) in
    let kept = filter_by test es in
    let ps = ascending compare (map position es) in
    let left : filter_by (λ p. q (position (of es p))) ps ≡ ascending compare (map position kept) =
    filter_same (λ p. q (position (of es p))) q ps (λ p m. ap q (position_of es light p))
    ∙ filter_ascending q (map position es) ∙ ap (ascending compare) (filter_by_map position q es) in
    let passed : Every (λ p. q p ≡ true) (ascending compare (map position kept)) =
    every_ascending compare _ (every_of_map position (filter_passes test es)) in
    filter_by_map (of es) test ps ∙ ap (map (of es)) left
    ∙ map_every (every_map (λ p h. ap (place_at p) (sym (low_filter q p es h))) passed)
