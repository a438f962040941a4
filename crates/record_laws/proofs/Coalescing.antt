-- The turns of a loop over the records of a contig that holds back one block record, and the shape of that record.
use Prim.Native.Nat.{◌<◌, ◌≤◌, suc, ℕ}
use borrow.Author.Tests.{le-ltb, lt-ltb}
use lib.Dec.{eqb, ltb}
use lib.ListN.{length}
use mathlib.Core.Bool.{Bool, ◌&&◌, false, true}
use mathlib.Core.List.{List, [], ◌++◌, ◌∷◌, append_assoc, append-nil}
use mathlib.Core.Option.{Option, get_or, none, some}
use mathlib.Core.Path.{◌∙◌, ◌≡◌, ap, refl, sym}
use native.Mathlib.Decide.{dec_lt}
use native.Mathlib.Omega.{arith}
use Rattle.definitions.specs.Alleles.{RefAlts, is_block}
use Rattle.definitions.specs.Bytes.{same_bytes}
use Rattle.definitions.specs.Checked.{Checked, ◌>>=◌, accepted, in_order, refused}
use Rattle.definitions.specs.Genotypes.{SampleData}
use Rattle.definitions.specs.Intervals.{Interval}
use Rattle.definitions.specs.Lists.{only_if, same_each}
use Rattle.definitions.specs.Records.{Record, coalesce_blocks, coalesce_from, coalesced, coalesces, end_of, record_end, same_sample_data}
use Rattle.laws.proofs.Alleles.{block_is, is_block_lem}
use Rattle.laws.proofs.Checked.{then_refused}
use Rattle.record_laws.specs.Pending.{and_later, block_record, coalesce_pending, finish}

-- ---- coalesce_from

pub joined : (p r : Record) (rs : List Record) → coalesces p r ≡ true → coalesce_from p (r ∷ rs) ≡ coalesce_from (coalesced p r) rs
unfolding coalesce_from
joined p r rs e = rw e

pub apart : (p r : Record) (rs : List Record) → coalesces p r ≡ false → coalesce_from p (r ∷ rs) ≡ p ∷ coalesce_from r rs
unfolding coalesce_from
apart p r rs e = rw e

-- a record that is no block coalesces with none
pub not_block_apart : (p r : Record) → is_block r.alleles ≡ false → coalesces p r ≡ false
unfolding coalesces
not_block_apart p r e = rw e (go (is_block p.alleles))
  where
    go : (b : Bool) → (b && false && eqb r.pos (suc (record_end p)) && same_bytes p.alleles.ref r.alleles.ref
        && same_each same_sample_data p.sample_data r.sample_data) ≡ false
    go true = refl
    go false = refl

pub not_block_first : (r : Record) (rs : List Record) → is_block r.alleles ≡ false → coalesce_from r rs ≡ r ∷ coalesce_blocks rs
unfolding coalesce_from coalesce_blocks coalesces
not_block_first r [] e = refl
not_block_first r (s ∷ rs) e = rw e

-- ---- the turns

-- before the first
pub at_start : (c : Checked (List Record)) → (c >>= λ rs. accepted (coalesce_blocks rs)) ≡ finish [] none c
unfolding finish coalesce_pending
at_start c = refl

-- what is to come, where it is not empty
pub in_order_cons : (m : Checked Record) (ms : List (Checked Record)) → in_order (m ∷ ms) ≡ and_later m (in_order ms)
unfolding in_order
in_order_cons m ms = refl

module _ (done : List Record) (m : Checked Record) (c : Checked (List Record)) where
  -- a refusal is the answer
  pub turn_refused : (pending : Option Record) (n : ℕ) → m ≡ refused n → finish done pending (and_later m c) ≡ refused n
  unfolding finish
  turn_refused pending n e = then_refused _ _ (then_refused m _ e)

  -- what is done and pending changes, and the records stay the same
  turn : (pending : Option Record) (done' : List Record) (pending' : Option Record) {r : Record} → m ≡ accepted r
      → ((rs : List Record) → done ++ coalesce_pending pending (r ∷ rs) ≡ done' ++ coalesce_pending pending' rs)
      → finish done pending (and_later m c) ≡ finish done' pending' c
  unfolding finish ◌>>=◌
  turn pending done' pending' {r} e k = rw e (go c)
    where
      go : (c : Checked (List Record)) → ((c >>= λ rs. accepted (r ∷ rs)) >>= λ rs. accepted (done ++ coalesce_pending pending rs))
          ≡ (c >>= λ rs. accepted (done' ++ coalesce_pending pending' rs))
      go (refused n) = refl
      go (accepted rs) = ap {B = Checked (List Record)} accepted (k rs)

  -- nothing was pending: a record that is no block is done, and any record may be held back
  pub turn_done : {r : Record} → m ≡ accepted r → is_block r.alleles ≡ false
      → finish done none (and_later m c) ≡ finish (done ++ (r ∷ [])) none c
  unfolding coalesce_pending coalesce_blocks
  turn_done {r} e b = turn none _ none e λ rs.
      ap (λ (l : List Record). done ++ l) (not_block_first r rs b) ∙ sym (append_assoc done (r ∷ []) (coalesce_blocks rs))

  pub turn_held : {r : Record} → m ≡ accepted r → finish done none (and_later m c) ≡ finish done (some r) c
  unfolding coalesce_pending coalesce_blocks
  turn_held {r} e = turn none _ (some r) e λ rs. refl

  -- a record was pending: both are done, or they coalesce, or the first is done and the second is held back
  pub turn_both_done : (p : Record) {r : Record} → m ≡ accepted r → is_block r.alleles ≡ false
      → finish done (some p) (and_later m c) ≡ finish (done ++ (p ∷ r ∷ [])) none c
  unfolding coalesce_pending
  turn_both_done p {r} e b = turn (some p) _ none e λ rs.
      ap (λ (l : List Record). done ++ l) (apart p r rs (not_block_apart p r b) ∙ ap (λ (l : List Record). p ∷ l) (not_block_first r rs b))
      ∙ sym (append_assoc done (p ∷ r ∷ []) (coalesce_blocks rs))

  pub turn_joined : (p : Record) {r : Record} → m ≡ accepted r → coalesces p r ≡ true
      → finish done (some p) (and_later m c) ≡ finish done (some (coalesced p r)) c
  unfolding coalesce_pending
  turn_joined p {r} e b = turn (some p) _ (some (coalesced p r)) e λ rs.
      ap (λ (l : List Record). done ++ l) (joined p r rs b)

  pub turn_apart : (p : Record) {r : Record} → m ≡ accepted r → coalesces p r ≡ false
      → finish done (some p) (and_later m c) ≡ finish (done ++ (p ∷ [])) (some r) c
  unfolding coalesce_pending
  turn_apart p {r} e b = turn (some p) _ (some r) e λ rs.
      ap (λ (l : List Record). done ++ l) (apart p r rs b) ∙ sym (append_assoc done (p ∷ []) (coalesce_from r rs))

-- after the last
pub at_end : (done : List Record) {c : Checked (List Record)} → c ≡ accepted [] → finish done none c ≡ accepted done
unfolding finish coalesce_pending coalesce_blocks ◌>>=◌
at_end done e = rw (e, append-nil)

pub at_end_pending : (done : List Record) (p : Record) {c : Checked (List Record)} → c ≡ accepted []
    → finish done (some p) c ≡ accepted (done ++ (p ∷ []))
unfolding finish coalesce_pending coalesce_from ◌>>=◌
at_end_pending done p e = rw e

-- ---- end_of

pub end_block : (alleles : RefAlts) (i : Interval) → is_block alleles ≡ true → end_of alleles i ≡ only_if (ltb i.first i.last) i.last
unfolding end_of
end_block alleles i e = rw e

pub end_not_block : (alleles : RefAlts) (i : Interval) → is_block alleles ≡ false → end_of alleles i ≡ none
unfolding end_of only_if
end_not_block alleles i e = rw e

-- ---- block_record

-- the record of an interval whose alleles are those of a block
pub block_record_lem : (contig : List ℕ) (i : Interval) (alleles : RefAlts) (vs : List SampleData) → is_block alleles ≡ true
    → record { contig = contig; pos = i.first; end = end_of alleles i; alleles = alleles; sample_data = vs }
    ≡ block_record contig i.first i.last alleles.ref vs
unfolding block_record
block_record_lem contig i alleles vs e =
    let ends = end_block alleles i e in
    let alts = (block_is alleles e).0 in
    λ j. record {
      contig = contig;
      pos = i.first;
      end = ends j;
      alleles = record { ref = alleles.ref; alts = alts j };
      sample_data = vs;
    }

module _ (contig : List ℕ) (first last : ℕ) (ref : List ℕ) (vs : List SampleData) where
  pub block_record_is : length ref ≡ 1 → is_block (block_record contig first last ref vs).alleles ≡ true
  unfolding block_record
  block_record_is e = is_block_lem _ refl e

  pub block_record_end : first ≤ last → record_end (block_record contig first last ref vs) ≡ last
  unfolding block_record record_end only_if
  block_record_end h = go (dec_lt first last)
    where
      go : Dec (first < last) → get_or (only_if (ltb first last) last) first ≡ last
      go (yes l) = rw (lt-ltb first last l)
      go (no l) = rw (le-ltb first last (omega arith)) (omega arith)

module _ (contig : List ℕ) (first last : ℕ) (ref : List ℕ) (vs : List SampleData)
    (contig' : List ℕ) (first' last' : ℕ) (ref' : List ℕ) (vs' : List SampleData) where
  -- two coalesce if they touch, and REF and all samples' data agree
  pub block_records_coalesce : first ≤ last → length ref ≡ 1 → length ref' ≡ 1
      → coalesces (block_record contig first last ref vs) (block_record contig' first' last' ref' vs')
      ≡ (eqb first' (suc last) && same_bytes ref ref' && same_each same_sample_data vs vs')
  unfolding coalesces
  block_records_coalesce h e f =
      rw (
        block_record_is contig first last ref vs e,
        block_record_is contig' first' last' ref' vs' f,
        block_record_end contig first last ref vs h,
      ) (unfold block_record in refl)

  -- the coalesced one ends where the second does
  pub block_records_coalesced : first < last' → first' ≤ last'
      → coalesced (block_record contig first last ref vs) (block_record contig' first' last' ref' vs')
      ≡ block_record contig first last' ref vs
  unfolding coalesced
  block_records_coalesced h k =
      rw (block_record_end contig' first' last' ref' vs' k) (unfold block_record only_if in rw (lt-ltb first last' h))
