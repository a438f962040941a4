-- The walk over all contigs: what is left of all records from a contig on.
use Prim.Native.Nat.{◌+◌, ◌<◌, ◌≤◌, ℕ}
use lib.ListN.{drop, drop_of_length-le, get_or, length, length-append}
use lib.Seq.{drop-cons}
use mathlib.Core.Bool.{Bool}
use mathlib.Core.List.{List, [], ◌++◌, ◌∷◌, append_assoc, append-nil, flat_map, flatten, map, map-map}
use mathlib.Core.Path.{◌∙◌, ◌≡◌, ap, refl, sym}
use native.Mathlib.Nat.{zero-add}
use native.Mathlib.Numerals.{add-one}
use Rattle.definitions.specs.Checked.{Checked, ◌>>=◌, accepted, in_order, refused}
use Rattle.definitions.specs.CombinedList.{combined_records}
use Rattle.definitions.specs.Printed.{printed_record}
use Rattle.definitions.specs.Records.{Record}
use Rattle.laws.proofs.Checked.{then_refused}
use Rattle.laws.proofs.Every.{every_at}
use Rattle.laws.proofs.Members.{flat_map_append}
use Rattle.combined_list.specs.Contigs.{AllReady, OneReady, all_records, records_on}
use Rattle.contig_walk.specs.Walk.{RecordsLaid, RecordsRefused, RecordsWalked}
use Rattle.coalescing.specs.Steps.{Progress}
use Rattle.answers.specs.Answered.{row_of}
use Rattle.answers.specs.declared.Refusal.{Refusal}
use Rattle.contig_walk.specs.declared.ListEnd.{ListEnd}
use Rattle.std.specs.Prelude as std

-- ---- records that are done, and those of the contigs from one on

module _ (of-contig : ℕ → Checked (List Record)) (contigs : List ℕ) where
  pub records_from : List Record → ℕ → Checked (List Record)
  records_from done c = in_order (map of-contig (drop c contigs)) >>= λ later. accepted (done ++ flatten later)

  module _ (done : List Record) (c : ℕ) where
    pub from_end : length contigs ≤ c → records_from done c ≡ accepted done
    unfolding records_from in_order ◌>>=◌ flatten
    from_end h = rw (drop_of_length-le contigs h) (ap {B = Checked (List Record)} accepted (append-nil done))

    module _ (h : c < length contigs) where
      first_contig : drop c contigs ≡ get_or contigs c 0 ∷ drop (c + 1) contigs
      first_contig = rw (add-one, drop-cons contigs c 0)

      pub from_refused : (row : ℕ) → of-contig (get_or contigs c 0) ≡ refused row → records_from done c ≡ refused row
      unfolding records_from in_order
      from_refused row e = rw first_contig (then_refused _ _ (then_refused _ _ e))

      pub from_next : (records : List Record) → of-contig (get_or contigs c 0) ≡ accepted records
          → records_from done c ≡ records_from (done ++ records) (c + 1)
      unfolding records_from in_order ◌>>=◌ flatten
      from_next records e = rw (first_contig, e) (go (in_order (map of-contig (drop (c + 1) contigs))))
        where
          go : (m : Checked (List (List Record))) → ((m >>= λ later. accepted (records ∷ later)) >>= λ later. accepted (done ++ flatten later))
              ≡ (m >>= λ later. accepted ((done ++ records) ++ flatten later))
          go (refused n) = refl
          go (accepted later) = ap {B = Checked (List Record)} accepted (sym (append_assoc done records (flatten later)))

-- ---- the loop

module _ {s rows : List ℕ} {samples : ℕ} {clipped : Bool} {clip : List ℕ} {referenced : Bool} {reference contigs order bounds out₀ : List ℕ} {at₀ : ℕ}
    (ready : AllReady s rows samples clipped clip referenced reference contigs order bounds out₀ at₀) where
  -- some records are laid, and those of the contigs from here on are left
  pub record Going (out : List ℕ) (at count c : ℕ) : Type 0 where
    pub done : List Record
    pub left : records_from (records_on ready.tables) contigs done c ≡ all_records ready.tables
    pub progress : Progress ready.d₀ (ready.bytes ++ flat_map printed_record done) (length done) out at count

  pub going_start : Going out₀ at₀ 0 0
  unfolding records_from combined_records flat_map
  going_start = record {
    done = [];
    left = rw (← ready.names, map-map);
    progress = rw append-nil ready.progress;
  }

  pub going_end : {out : List ℕ} {end : ListEnd} {c : ℕ} → Going out end.at end.count c → length contigs ≤ c
      → RecordsWalked (all_records ready.tables) ready.d₀ ready.bytes 0 out (std.Ok end)
  unfolding RecordsWalked
  going_end {c = c} g h = record {
    list = g.done;
    merged = sym g.left ∙ from_end _ contigs g.done c h;
    progress = rw zero-add g.progress;
  }

  module _ {out : List ℕ} {at count c : ℕ} (g : Going out at count c) (h : c < length contigs) where
    pub one_ready : OneReady s rows samples clipped clip referenced reference (get_or contigs c 0) order bounds out at count
    one_ready = record {
      tables = ready.tables;
      is_first = every_at c 0 h ready.firsts;
      d₀ = ready.d₀;
      bytes = ready.bytes ++ flat_map printed_record g.done;
      records = length g.done;
      progress = g.progress;
    }

    -- what walking over one contig says
    abbrev pub OneSays : List ℕ → std.Result ListEnd Refusal → Type 0
    OneSays out' w =
        (r : OneReady s rows samples clipped clip referenced reference (get_or contigs c 0) order bounds out at count)
        → RecordsWalked (records_on r.tables (get_or contigs c 0)) r.d₀ r.bytes r.records out' w

    pub going_next : (out' : List ℕ) (end : ListEnd) → OneSays out' (std.Ok end) → Going out' end.at end.count (c + 1)
    unfolding RecordsWalked one_ready
    going_next out' end says =
        let laid : RecordsLaid (records_on ready.tables (get_or contigs c 0)) ready.d₀
        (ready.bytes ++ flat_map printed_record g.done) (length g.done) out' end.at end.count = says one_ready in
        record {
          done = g.done ++ laid.list;
          left = sym (from_next _ contigs g.done c h laid.list laid.merged) ∙ g.left;
          progress = rw (flat_map_append, length-append, ← append_assoc) laid.progress;
        }

    pub going_refused : (out' : List ℕ) (refusal : Refusal) → OneSays out' (std.Err refusal)
        → RecordsWalked (all_records ready.tables) ready.d₀ ready.bytes 0 out' (std.Err refusal)
    unfolding RecordsWalked one_ready
    going_refused out' refusal says =
        let r : RecordsRefused (records_on ready.tables (get_or contigs c 0)) ready.d₀
        (ready.bytes ++ flat_map printed_record g.done) out' (row_of refusal) = says one_ready in
        record {
          merged = sym g.left ∙ from_refused _ contigs g.done c h (row_of refusal) r.merged;
          list = g.done ++ r.list;
          laid = rw (flat_map_append, ← append_assoc) r.laid;
        }
