-- `depth_by_overlap`: the positions of a window that lie in a record with enough DP are counted record by record, by arithmetic.
-- `first_position_lem` and `last_position_lem`: where the windows of a contig begin and end.
use Prim.Native.Nat.{◌+◌, ◌-◌, ◌<◌, ◌≤◌, max, min, suc, zero, ℕ}
use borrow.Author.Tests.{leb-false, leb-true}
use lib.Dec.{leb}
use lib.ListN.{get_or, length}
use mathlib.Core.Bool.{Bool, ◌&&◌, ◌||◌, cond, false, true}
use mathlib.Core.List.Memᴰ
use mathlib.Core.List.{List, [], ◌++◌, ◌∷◌, foldr, map}
use mathlib.Core.Logic.{inl, inr}
use mathlib.Core.Path.{◌∙◌, ◌≡◌, ap, ap₂, refl, sym}
use native.Mathlib.Omega.{arith}
use Rattle.definitions.specs.Bytes.{same_bytes}
use Rattle.definitions.specs.DepthWindows.{deep_at, deep_positions, first_position, is_deep, last_position, overlap, records_on}
use Rattle.definitions.specs.Genotypes.{missing_data}
use Rattle.definitions.specs.Lists.{any_of, filter_by, numbers_from}
use Rattle.definitions.specs.Records.{Record, record_end}
use Rattle.laws.proofs.Bytes.{bytes_differ, same_is}
use Rattle.laws.proofs.Every.{Every, Pairwise, alone, also, before_all, every_both, every_filter, every_map, every_member, every_uncons, filter_passes, nothing, pairwise_filter, pairwise_head, pairwise_tail}
use Rattle.laws.proofs.Genotypes.{least_is}
use Rattle.laws.proofs.Members.{◌∈◌, any_member, cons_cases, filter_none, filter_same, member_map}
use Rattle.laws.proofs.RecordsInOrder.{After, Past, after_past, in_list_order, pos_last}
use Rattle.laws.proofs.SoundRecords.{SoundRecords}
use Rattle.laws.proofs.Tests.{all_three}

-- ---- the records of a contig

-- stretches in order of their positions, none shared
pub record Apart (here : List Record) : Type 0 where
  pub each : Every (λ r. r.pos ≤ record_end r) here
  pub in_order_lem : Pairwise (λ r s. record_end r < s.pos) here

pub contig_apart : {samples : ℕ} (contig : List ℕ) {records : List Record} → SoundRecords samples records
    → Apart (records_on contig records)
unfolding records_on
contig_apart contig {records} h =
    let (sound, after) = in_list_order h in
    record {
      each = every_filter _ records (every_map (λ r k. pos_last r k) sound);
      in_order_lem = go (filter_passes _ records) (pairwise_filter _ after);
    }
  where
    past : (r s : Record) → same_bytes contig r.contig ≡ true → same_bytes contig s.contig ≡ true → Past r s
        → record_end r < s.pos
    past r s p q (inl e) = absurd (bytes_differ _ _ e (sym (same_is _ _ p) ∙ same_is _ _ q))
    past r s p q (inr (e, k)) = k

    go : {here : List Record} → Every (λ r. same_bytes contig r.contig ≡ true) here → Pairwise After here
        → Pairwise (λ r s. record_end r < s.pos) here
    go nothing alone = alone
    go (also {x = r} p ps) (before_all a as') =
        before_all (every_map (λ s k. past r s p k.0 (after_past r s k.1)) (every_both ps a)) (go ps as')

apart_tail : {r : Record} {rs : List Record} → Apart (r ∷ rs) → Apart rs
apart_tail h = record { each = (every_uncons h.each).1; in_order_lem = pairwise_tail h.in_order_lem }

-- ---- from the first position to the last

pub first_position_lem : (r : Record) (rs : List Record) → Apart (r ∷ rs) → first_position (r ∷ rs) ≡ r.pos
unfolding first_position
first_position_lem r rs h = least_is _ r.pos (Memᴰ.head refl) λ y m.
    let (s, n, e) = member_map (λ (s : Record). s.pos) (r ∷ rs) m in
    cons_cases n (λ q. rw (e, q) (omega arith)) (λ k.
    let ends = (every_uncons h.each).0 in
    let after = every_member k (pairwise_head h.in_order_lem) in
    rw e (omega arith))

-- the last record read is the one that ends last
pub last_position_lem : (front : List Record) (r : Record) → Apart (front ++ (r ∷ []))
    → last_position (front ++ (r ∷ [])) ≡ record_end r
unfolding last_position
last_position_lem [] r h = omega arith
last_position_lem (s ∷ front) r h =
    let here : r ∈ front ++ (r ∷ []) = Memᴰ.append_right front (Memᴰ.head refl) in
    let after = every_member here (pairwise_head h.in_order_lem) in
    let ends = every_member (Memᴰ.tail here) h.each in
    let ih = last_position_lem front r (apart_tail h) in
    omega arith

-- ---- the positions of a window in a stretch

stretch_count : (from to : ℕ) (begin size : ℕ)
    → length (filter_by (λ p. leb from p && leb p to) (numbers_from begin size)) ≡ overlap from to size begin
unfolding numbers_from filter_by overlap
stretch_count from to begin zero = omega arith
stretch_count from to begin (suc size) =
    go (leb from begin) refl (leb begin to) refl (stretch_count from to (suc begin) size)
  where
    rest : List ℕ
    rest = filter_by (λ p. leb from p && leb p to) (numbers_from (suc begin) size)

    go : (a : Bool) → leb from begin ≡ a → (b : Bool) → leb begin to ≡ b
        → length rest ≡ min (suc to) (suc begin + size) - max from (suc begin)
        → length (cond (a && b) (begin ∷ rest) rest) ≡ min (suc to) (begin + suc size) - max from begin
    go true e true f ih = omega (arith, leb-true from begin e, leb-true begin to f)
    go true e false f ih = omega (arith, leb-true from begin e, leb-false begin to f)
    go false e b f ih = omega (arith, leb-false from begin e)

-- and with enough DP of the sample
unfoldable pub deep_overlap : ℕ → ℕ → ℕ → ℕ → Record → ℕ
deep_overlap sample threshold begin size r =
    cond (is_deep threshold (get_or r.sample_data sample missing_data).dp) (overlap r.pos (record_end r) size begin) 0

one_record : (sample threshold begin size : ℕ) (r : Record)
    → length (filter_by (λ p. deep_at sample threshold p r) (numbers_from begin size)) ≡ deep_overlap sample threshold begin size r
unfolding deep_at deep_overlap
one_record sample threshold begin size r = go (is_deep threshold (get_or r.sample_data sample missing_data).dp)
  where
    inside : ℕ → Bool → Bool
    inside p b = leb r.pos p && leb p (record_end r) && b

    last_true : (a b : Bool) → a && b && true ≡ a && b
    last_true true true = refl
    last_true true false = refl
    last_true false b = refl

    last_false : (a b : Bool) → a && b && false ≡ false
    last_false true true = refl
    last_false true false = refl
    last_false false b = refl

    go : (b : Bool) → length (filter_by (λ p. inside p b) (numbers_from begin size)) ≡ cond b (overlap r.pos (record_end r) size begin) 0
    go true =
        ap length (filter_same (λ p. inside p true) (λ p. leb r.pos p && leb p (record_end r)) (numbers_from begin size)
        (λ p m. last_true (leb r.pos p) (leb p (record_end r))))
        ∙ stretch_count r.pos (record_end r) begin size
    go false = ap length
        (filter_none (λ p. inside p false) (numbers_from begin size) (λ p m. last_false (leb r.pos p) (leb p (record_end r))))

-- ---- the positions of a window in some stretch

-- what passes one of two tests that exclude each other
either_count : {A : Type 0} (p q : A → Bool) (l : List A) → ((a : A) → p a ≡ true → q a ≡ true → ⊥)
    → length (filter_by (λ a. p a || q a) l) ≡ length (filter_by p l) + length (filter_by q l)
unfolding filter_by
either_count p q [] h = refl
either_count {A} p q (x ∷ l) h = go (p x) refl (q x) refl (either_count p q l h)
  where
    go : (a : Bool) → p x ≡ a → (b : Bool) → q x ≡ b
        → length (filter_by (λ a. p a || q a) l) ≡ length (filter_by p l) + length (filter_by q l)
        → length (cond (a || b) (x ∷ filter_by (λ a. p a || q a) l) (filter_by (λ a. p a || q a) l))
        ≡ length (cond a (x ∷ filter_by p l) (filter_by p l)) + length (cond b (x ∷ filter_by q l) (filter_by q l))
    go true e true f ih = absurd (h x e f)
    go true e false f ih = omega arith
    go false e true f ih = omega arith
    go false e false f ih = omega arith

-- a position in a stretch is in none of those after it
not_in_two : (sample threshold : ℕ) {r : Record} {rs : List Record} → Apart (r ∷ rs) → (p : ℕ)
    → deep_at sample threshold p r ≡ true → any_of (deep_at sample threshold p) rs ≡ true → ⊥
unfolding deep_at
not_in_two sample threshold {r} {rs} h p e f =
    let (s, m, g) = any_member (deep_at sample threshold p) rs f in
    let after = every_member m (pairwise_head h.in_order_lem) in
    let (a, b, c) = all_three (leb r.pos p) (leb p (record_end r)) _ e in
    let (i, j, k) = all_three (leb s.pos p) (leb p (record_end s)) _ g in
    omega (arith, leb-true p (record_end r) b, leb-true s.pos p i)

-- the count of a window: record by record, the overlap of its stretch and the window where the sample's DP is deep
pub depth_by_overlap : (sample threshold size begin : ℕ) (here : List Record) → Apart here
    → deep_positions here sample threshold size begin ≡ foldr (λ r n. deep_overlap sample threshold begin size r + n) 0 here
unfolding deep_positions any_of
depth_by_overlap sample threshold size begin [] h = ap length (filter_none _ (numbers_from begin size) (λ p m. refl))
depth_by_overlap sample threshold size begin (r ∷ rs) h =
    either_count (λ p. deep_at sample threshold p r) (λ p. any_of (deep_at sample threshold p) rs) (numbers_from begin size)
    (not_in_two sample threshold h)
    ∙ ap₂ ◌+◌ (one_record sample threshold begin size r) (depth_by_overlap sample threshold size begin rs (apart_tail h))
