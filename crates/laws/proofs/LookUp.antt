-- Places in list order, and how far a list is read for one: `read_less`, `read_whole`, `index_kept`.
use Prim.Native.Nat.{Ordering, ◌-◌, ◌<◌, ◌≤◌, compare, suc, zero, ℕ}
use borrow.Author.Tests.{leb-true, ltb-true}
use lib.Dec.{leb, ltb}
use lib.ListN.{get_elem?, length}
use mathlib.Core.Bool.{Bool, cond, false, true}
use mathlib.Core.List.{List, [], ◌∷◌}
use mathlib.Core.Logic.{◌⊎◌, inl, inr}
use mathlib.Core.Option.{Option, get_or, map, none, some}
use mathlib.Core.Path.{◌∙◌, ◌≡◌, ap, refl, subst, sym}
use native.Mathlib.Omega.{arith}
use Rattle.definitions.specs.Bytes.{and_then, compare_bytes, same_bytes}
use Rattle.definitions.specs.Checked.{Checked, accepted, read_each}
use Rattle.definitions.specs.Lines.{Line}
use Rattle.definitions.specs.ListReader.{record_read}
use Rattle.definitions.specs.Lists.{by_order, index_where}
use Rattle.definitions.specs.LookUp.{Place, follows, holds_place, last_of, max_places, not_after, place_of, places_of, reaches, read_to, steps_to}
use Rattle.definitions.specs.Records.{Record, record_end}
use Rattle.laws.proofs.Bytes.{bytes_differ, bytes_eq, bytes_refl, bytes_trans, same_is}
use Rattle.laws.proofs.Checked.{accepted_same, after_required, after_then, each_read_back, then}
use Rattle.laws.proofs.Every.{EachAfter, Every, Pairwise, alone, also, before_all, done, every_map, index_none, next, nothing}
use Rattle.laws.proofs.Orders.{compare_eq, compare_gt, compare_lt}
use Rattle.laws.proofs.RecordsInOrder.{After, Past, after_past}
use Rattle.laws.proofs.SoundList.{record_sound}
use Rattle.laws.proofs.SoundRecords.{RecordAfter}
use Rattle.laws.proofs.Tests.{all_three, both_of, clash, not_none, some_same}

-- ---- list order

-- an earlier contig, or the same one and no later position
abbrev pub Before : Place → Place → Type 0
Before a b =
    (compare_bytes a.contig b.contig ≡ Ordering.lt) ⊎ ((a.contig ≡ b.contig) × (a.position ≤ b.position))

not_after_is : (a b : Place) → not_after a b ≡ true → Before a b
unfolding not_after by_order and_then
not_after_is a b h = go (compare_bytes a.contig b.contig) refl h
  where
    by_position : (v : Ordering) → compare a.position b.position ≡ v → by_order v true true false ≡ true
        → a.position ≤ b.position
    by_position Ordering.lt e k = let z = compare_lt _ _ e in omega arith
    by_position Ordering.eq e k = let z = compare_eq _ _ e in omega arith
    by_position Ordering.gt e k = clash k refl

    go : (o : Ordering) → compare_bytes a.contig b.contig ≡ o
        → by_order (and_then o (compare a.position b.position)) true true false ≡ true → Before a b
    go Ordering.lt e k = inl e
    go Ordering.eq e k = inr (bytes_eq _ _ e, by_position (compare a.position b.position) refl k)
    go Ordering.gt e k = clash k refl

is_not_after : (a b : Place) → Before a b → not_after a b ≡ true
unfolding not_after by_order and_then
is_not_after a b (inl e) = rw e
is_not_after a b (inr (e, h)) = rw (e, bytes_refl b.contig) (go (compare a.position b.position) refl)
  where
    go : (v : Ordering) → compare a.position b.position ≡ v → by_order v true true false ≡ true
    go Ordering.lt f = refl
    go Ordering.eq f = refl
    go Ordering.gt f = let z = compare_gt _ _ f in absurd (omega arith)

pub not_after_refl : (a : Place) → not_after a a ≡ true
not_after_refl a = is_not_after a a (inr (refl, omega arith))

pub not_after_trans : (a b c : Place) → not_after a b ≡ true → not_after b c ≡ true → not_after a c ≡ true
not_after_trans a b c h k = is_not_after a c (go (not_after_is a b h) (not_after_is b c k))
  where
    go : Before a b → Before b c → Before a c
    go (inl e) (inl f) = inl (bytes_trans _ _ _ e f)
    go (inl e) (inr (f, g)) = inl (rw (← f) e)
    go (inr (e, g)) (inl f) = inl (rw e f)
    go (inr (e, g)) (inr (f, k)) = inr (e ∙ f, omega arith)

-- ---- places read in list order

-- each place stands in list order, up to the last
in_order_lem : {before places : List Place} → EachAfter (λ before p. follows before p ≡ true) before places
    → (k : ℕ) (p : Place) → get_elem? places k ≡ some p → (q : Place) × (last_of places ≡ some q) × (not_after p q ≡ true)
unfolding follows last_of
in_order_lem done k p h = not_none h
in_order_lem (next {x = x} f done) zero p h = (x, refl, rw (some_same h) (not_after_refl p))
in_order_lem (next {x = x} f done) (suc k) p h = not_none h
in_order_lem (next {x = x} f (next {x = y} g r)) zero p h =
    let (q, last, before_last) = in_order_lem (next g r) zero y refl in
    (q, last, not_after_trans p y q (rw (some_same h) at g) before_last)
in_order_lem (next {x = x} f (next {x = y} g r)) (suc k) p h = in_order_lem (next g r) k p h

place_follows : (before : List Place) (group : List Line) (p : Place) → place_of before group ≡ accepted p → follows before p ≡ true
unfolding place_of
place_follows before group p e =
    after_then _ _ e λ contig p₀ e. after_then _ _ e λ position p₁ e. after_required _ _ _ e λ t e.
    subst (λ (p : Place). follows before p ≡ true) (accepted_same e) (both_of (ltb (length before) max_places) _ t).1

pub places_in_order : (asked : List ℕ) (places : List Place) → places_of asked ≡ accepted places
    → (k : ℕ) (p : Place) → get_elem? places k ≡ some p → (q : Place) × (last_of places ≡ some q) × (not_after p q ≡ true)
unfolding places_of
places_in_order asked places e = in_order_lem (each_read_back (λ before p. follows before p ≡ true) place_of [] places _ place_follows e)

abbrev pub InOrder : List Place → Type 0
InOrder = Pairwise (λ p q. not_after p q ≡ true)

-- those behind a place do not stand before it, nor before one another
behind_place : {before places : List Place} (p : Place) → EachAfter (λ before p. follows before p ≡ true) (p ∷ before) places
    → Every (λ q. not_after p q ≡ true) places × InOrder places
unfolding follows
behind_place p done = (nothing, alone)
behind_place p (next {x = q} f r) =
    let (later, ordered) = behind_place q r in
    let first : not_after p q ≡ true = f in
    (also first (every_map (λ x k. not_after_trans p q x first k) later), before_all later ordered)

pub places_ordered : (asked : List ℕ) (places : List Place) → places_of asked ≡ accepted places → InOrder places
unfolding places_of
places_ordered asked places e = go (each_read_back (λ before p. follows before p ≡ true) place_of [] places _ place_follows e)
  where
    go : {places : List Place} → EachAfter (λ before p. follows before p ≡ true) [] places → InOrder places
    go done = alone
    go (next {x = p} f r) = let (later, ordered) = behind_place p r in before_all later ordered

-- the last of places in order does not stand before the first
pub last_not_before : {p : Place} {places : List Place} (q : Place) → InOrder (p ∷ places) → last_of (p ∷ places) ≡ some q → not_after p q ≡ true
unfolding last_of
last_not_before {p} q (before_all nothing ordered) e = rw (some_same e) (not_after_refl q)
last_not_before {p} q (before_all (also {x = r} first later) ordered) e = not_after_trans p r q first (last_not_before q ordered e)

-- at most 1,024 of them
pub places_few : (asked : List ℕ) (places : List Place) → places_of asked ≡ accepted places → length places ≤ max_places
unfolding places_of place_of
places_few asked places e = go (each_read_back (λ before p. length before < max_places) place_of [] places _ below e)
  where
    below : (before : List Place) (group : List Line) (p : Place) → place_of before group ≡ accepted p → length before < max_places
    below before group p e =
        after_then _ _ e λ contig p₀ e. after_then _ _ e λ position p₁ e. after_required _ _ _ e λ t e.
        ltb-true (length before) max_places (both_of (ltb (length before) max_places) _ t).0

    go : {before places : List Place} → EachAfter (λ before p. length before < max_places) before places
        → length places ≤ max_places - length before
    go done = omega arith
    go (next f r) = omega (arith, go r)

-- ---- records up to the first that reaches a place

unfoldable pub up_to : Place → List Record → List Record
up_to p [] = []
up_to p (r ∷ rs) = r ∷ cond (reaches p r) [] (up_to p rs)

pub up_to_steps : (p : Place) (records : List Record) → length (up_to p records) ≡ steps_to p records
unfolding up_to steps_to index_where
up_to_steps p [] = refl
up_to_steps p (r ∷ rs) = go (reaches p r) (index_where (reaches p) rs) (up_to_steps p rs)
  where
    go : (b : Bool) (o : Option ℕ) → length (up_to p rs) ≡ get_or (map suc o) (length rs)
        → suc (length (cond b [] (up_to p rs)))
        ≡ get_or (map suc (cond b (some 0) (map suc o))) (suc (length rs))
    go true o e = refl
    go false none e = ap suc e
    go false (some k) e = ap suc e

pub up_to_few : (p : Place) (records : List Record) → length (up_to p records) ≤ length records
unfolding up_to
up_to_few p [] = omega arith
up_to_few p (r ∷ rs) = go (reaches p r) (up_to_few p rs)
  where
    go : (b : Bool) → length (up_to p rs) ≤ length rs → suc (length (cond b [] (up_to p rs))) ≤ suc (length rs)
    go true h = omega arith
    go false h = omega arith

-- what reaches a place reaches each before it
pub reaches_before : (p q : Place) (r : Record) → not_after p q ≡ true → reaches q r ≡ true → reaches p r ≡ true
unfolding reaches
reaches_before p q r h k = not_after_trans p q _ h k

-- what holds a place reaches it
pub not_reached : (p : Place) (r : Record) → reaches p r ≡ false → holds_place p r ≡ false
unfolding reaches holds_place
not_reached p r h = go (holds_place p r) refl
  where
    go : (b : Bool) → holds_place p r ≡ b → b ≡ false
    go false e = refl
    go true e =
        let (same, from, to) = all_three (same_bytes p.contig r.contig) (leb r.pos p.position) _ e in
        clash (is_not_after p _ (inr (same_is _ _ same, leb-true p.position (record_end r) to))) h

-- a record behind one that reaches a place does not hold it
pub not_held : (p : Place) (r x : Record) → reaches p r ≡ true → After r x → holds_place p x ≡ false
unfolding reaches holds_place
not_held p r x h a = not_so (holds_place p x) (λ e. go (not_after_is p _ h) (after_past r x a) (all_three _ _ _ e))
  where
    not_so : (b : Bool) → (b ≡ true → ⊥) → b ≡ false
    not_so true k = absurd (k refl)
    not_so false k = refl

    go : Before p (record { contig = r.contig; position = record_end r }) → Past r x
        → (same_bytes p.contig x.contig ≡ true) × (leb x.pos p.position ≡ true) × (leb p.position (record_end x) ≡ true)
        → ⊥
    go (inl e) (inl f) (same, from, to) = bytes_differ _ _ (bytes_trans _ _ _ e f) (same_is _ _ same)
    go (inl e) (inr (f, k)) (same, from, to) = bytes_differ _ _ e (same_is _ _ same ∙ sym f)
    go (inr (e, k)) (inl f) (same, from, to) = bytes_differ _ _ f (sym e ∙ same_is _ _ same)
    go (inr (e, k)) (inr (f, l)) (same, from, to) = let z = leb-true x.pos p.position from in omega arith

-- so a place is found among the records up to one that reaches it as among all
pub index_kept : (p q : Place) {records : List Record} → not_after p q ≡ true → Pairwise After records
    → index_where (holds_place p) (up_to q records) ≡ index_where (holds_place p) records
unfolding up_to index_where
index_kept p q h alone = refl
index_kept p q h (before_all {x = r} {xs = rs} a as') = go (reaches q r) refl (index_kept p q h as')
  where
    go : (b : Bool) → reaches q r ≡ b → index_where (holds_place p) (up_to q rs) ≡ index_where (holds_place p) rs
        → index_where (holds_place p) (r ∷ cond b [] (up_to q rs)) ≡ index_where (holds_place p) (r ∷ rs)
    go true e ih =
        ap (λ (o : Option ℕ). cond (holds_place p r) (some 0) (map suc o))
        (sym (index_none (holds_place p) (every_map (λ x k. not_held p r x (reaches_before p q r h e) k) a)))
    go false e ih = ap (λ (o : Option ℕ). cond (holds_place p r) (some 0) (map suc o)) ih

-- ---- records read one after the other

pub read_to_sound : (samples count : ℕ) (q : Place) (before records : List Record) (groups : List (List Line))
    → read_to samples count q before groups ≡ accepted records → EachAfter (RecordAfter samples) before records
unfolding read_to
read_to_sound samples count q before records [] e = rw (← accepted_same e) done
read_to_sound samples count q before records (g ∷ gs) e =
    after_then _ _ e λ r p e. after_then _ _ e λ rest f e.
    let first = record_sound samples count before g r p in
    rw (← accepted_same e) (next first (go (reaches q r) rest f (λ rs h. read_to_sound samples count q (r ∷ before) rs gs h)))
  where
    go : {r : Record} (b : Bool) (rest : List Record) → cond b (accepted []) (read_to samples count q (r ∷ before) gs) ≡ accepted rest
        → ((rs : List Record) → read_to samples count q (r ∷ before) gs ≡ accepted rs → EachAfter (RecordAfter samples) (r ∷ before) rs)
        → EachAfter (RecordAfter samples) (r ∷ before) rest
    go true rest f ih = rw (← accepted_same f) done
    go false rest f ih = ih rest f

-- for an earlier place the same records are read, up to the first that reaches it
pub read_less : (samples count : ℕ) (p q : Place) → not_after p q ≡ true → (before records : List Record) (groups : List (List Line))
    → read_to samples count q before groups ≡ accepted records → read_to samples count p before groups ≡ accepted (up_to p records)
unfolding read_to up_to
read_less samples count p q h before records [] e = rw (← accepted_same e)
read_less samples count p q h before records (g ∷ gs) e =
    after_then _ _ e λ r f e. after_then _ _ e λ rest k e.
    let behind = go r (reaches p r) refl (reaches q r) refl rest k (λ rs l. read_less samples count p q h (r ∷ before) rs gs l) in
    rw (← accepted_same e) (then _ _ f (then _ _ behind refl))
  where
    go : (r : Record) (a : Bool) → reaches p r ≡ a → (b : Bool) → reaches q r ≡ b → (rest : List Record)
        → cond b (accepted []) (read_to samples count q (r ∷ before) gs) ≡ accepted rest
        → ((rs : List Record) → read_to samples count q (r ∷ before) gs ≡ accepted rs
        → read_to samples count p (r ∷ before) gs ≡ accepted (up_to p rs))
        → cond a (accepted []) (read_to samples count p (r ∷ before) gs) ≡ accepted (cond a [] (up_to p rest))
    go r true e b f rest k ih = refl
    go r false e true f rest k ih = clash (reaches_before p q r h f) e
    go r false e false f rest k ih = ih rest k

-- of a list that reads as a whole, the records up to the first that reaches the place
pub read_whole : (samples count : ℕ) (q : Place) (before records : List Record) (groups : List (List Line))
    → read_each (record_read samples count) before groups ≡ accepted records
    → read_to samples count q before groups ≡ accepted (up_to q records)
unfolding read_to read_each up_to
read_whole samples count q before records [] e = rw (← accepted_same e)
read_whole samples count q before records (g ∷ gs) e =
    after_then _ _ e λ r f e. after_then _ _ e λ rest k e.
    rw (← accepted_same e)
    (then _ _ f (then _ _ (go (reaches q r) (read_whole samples count q (r ∷ before) rest gs k)) refl))
  where
    go : {m : Checked (List Record)} {rest : List Record} (b : Bool) → m ≡ accepted rest
        → cond b (accepted []) m ≡ accepted (cond b [] rest)
    go true k = refl
    go false k = k
