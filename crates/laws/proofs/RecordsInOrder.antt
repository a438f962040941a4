-- Records in the order of a list: `in_list_order`, from each after the nearest before it to each after all before it, and
-- `each_after_lem`, back.
use Prim.Native.Nat.{Ordering, ◌<◌, ◌≤◌, suc, ℕ}
use borrow.Author.Tests.{le-leb, ltb-true}
use lib.Dec.{ltb}
use mathlib.Core.Bool.{false, true}
use mathlib.Core.List.{List, [], ◌∷◌}
use mathlib.Core.Logic.{◌⊎◌, inl, inr}
use mathlib.Core.Option.{Option, get_or, none, some}
use mathlib.Core.Path.{◌∙◌, ◌≡◌, refl}
use native.Mathlib.Omega.{arith}
use Rattle.definitions.specs.Bytes.{compare_bytes}
use Rattle.definitions.specs.ListReader.{comes_after}
use Rattle.definitions.specs.Lists.{by_order}
use Rattle.definitions.specs.Records.{Record, record_end}
use Rattle.laws.proofs.Bytes.{bytes_eq, bytes_refl, bytes_trans}
use Rattle.laws.proofs.Every.{EachAfter, Every, IfThere, Pairwise, alone, also, before_all, done, every_map, next, nothing}
use Rattle.laws.proofs.SoundRecords.{RecordAfter, SoundRecord, SoundRecords}
use Rattle.laws.proofs.Tests.{clash}

pub pos_last : {samples : ℕ} (r : Record) → SoundRecord samples r → r.pos ≤ record_end r
unfolding record_end
pos_last r h = go r.end h.end_past
  where
    go : (o : Option ℕ) → IfThere (λ e. r.pos < e) o → r.pos ≤ get_or o r.pos
    go none k = omega arith
    go (some e) k = omega arith

-- as a list's reader has it: contig by contig in byte order, position by position
unfoldable pub After : Record → Record → Type 0
After r s = by_order (compare_bytes r.contig s.contig) true (ltb (record_end r) s.pos) false ≡ true

-- that is, on a later contig, or on the same one and past its end
abbrev pub Past : Record → Record → Type 0
Past r s = (compare_bytes r.contig s.contig ≡ Ordering.lt) ⊎ ((r.contig ≡ s.contig) × (record_end r < s.pos))

pub after_past : (r s : Record) → After r s → Past r s
unfolding After by_order
after_past r s h = go (compare_bytes r.contig s.contig) refl h
  where
    go : (o : Ordering) → compare_bytes r.contig s.contig ≡ o → by_order o true (ltb (record_end r) s.pos) false ≡ true
        → Past r s
    go Ordering.lt e k = inl e
    go Ordering.eq e k = inr (bytes_eq _ _ e, ltb-true _ _ k)
    go Ordering.gt e k = clash k refl

pub past_after : (r s : Record) → Past r s → After r s
unfolding After by_order record_end
past_after r s (inl e) = rw e
past_after r s (inr (e, h)) = rw (e, bytes_refl s.contig, le-leb (suc (record_end r)) s.pos h)

after_trans : (r s t : Record) → s.pos ≤ record_end s → After r s → After s t → After r t
after_trans r s t h a b = past_after r t (go (after_past r s a) (after_past s t b))
  where
    go : Past r s → Past s t → Past r t
    go (inl e) (inl f) = inl (bytes_trans _ _ _ e f)
    go (inl e) (inr (f, k)) = inl (rw (← f) e)
    go (inr (e, k)) (inl f) = inl (rw e f)
    go (inr (e, k)) (inr (f, l)) = inr (e ∙ f, omega arith)

-- records each after all before it are each after the nearest
pub each_after_lem : {P : Record → Type 0} {rs : List Record} → Every P rs → Pairwise After rs
    → EachAfter (λ before r. P r × (comes_after before r.contig r.pos ≡ true)) [] rs
unfolding After comes_after
each_after_lem nothing alone = done
each_after_lem {P} (also h hs) (before_all b bs) = next (h, refl) (onwards hs b bs)
  where
    onwards : {p : Record} {before rs : List Record} → Every P rs → Every (After p) rs → Pairwise After rs
        → EachAfter (λ before r. P r × (comes_after before r.contig r.pos ≡ true)) (p ∷ before) rs
    onwards nothing nothing alone = done
    onwards (also h hs) (also a as') (before_all b bs) = next (h, a) (onwards hs b bs)

-- records read behind one, each after the nearest before it, are each after all before it and after that one
pub behind_in_order : {samples : ℕ} (p : Record) (before : List Record) {rs : List Record} → EachAfter (RecordAfter samples) (p ∷ before) rs
    → Every (SoundRecord samples) rs × Pairwise After rs × Every (After p) rs
unfolding After comes_after
behind_in_order p before done = (nothing, alone, nothing)
behind_in_order p before (next {x = r} h hs) =
    let (sound, in_order_lem, after) = behind_in_order r (p ∷ before) hs in
    let first : After p r = h.after in (
      also h.sound sound,
      before_all after in_order_lem,
      also first (every_map (λ s k. after_trans p r s (pos_last r h.sound) first k) after),
    )

-- and so are all
pub in_list_order : {samples : ℕ} {rs : List Record} → SoundRecords samples rs → Every (SoundRecord samples) rs × Pairwise After rs
in_list_order done = (nothing, alone)
in_list_order (next {x = r} h hs) =
    let (sound, in_order_lem, after) = behind_in_order r [] hs in (also h.sound sound, before_all after in_order_lem)
