-- A record comes behind the one that is held back: what is laid, what waits, and that all goes on as it would have gone on with it.
use Prim.Native.Nat.{◌+◌, ◌^◌, ◌≤◌, min, ℕ}
use lib.ListN.{drop, length, length-append}
use lib.Seq.{sets, take_at, take-length}
use mathlib.Core.Bool.{Bool, cond, false, true}
use mathlib.Core.List.{List, [], ◌++◌, ◌∷◌, append_assoc, append-nil, flat_map}
use mathlib.Core.Option.{Option, none, some}
use mathlib.Core.Path.{◌∙◌, ◌≡◌, ap, refl, sym}
use native.Mathlib.Nat.{add-zero, zero-add}
use native.Mathlib.Omega.{arith}
use Rattle.bio_ids.specs.declared.GenomeLoc.{GenomeLoc}
use Rattle.definitions.specs.Checked.{Checked, accepted}
use Rattle.definitions.specs.Printed.{printed_record, printed_sample_data}
use Rattle.definitions.specs.Records.{Record, coalesced, coalesces}
use Rattle.kv_write.proofs.Laying.{sets_front}
use Rattle.kv_write.specs.Laid.{Laid}
use Rattle.laws.proofs.Members.{flat_map_append}
use Rattle.laws.proofs.Tests.{clash}
use Rattle.list_header.proofs.TwoPasses.{counted_more, measured_more}
use Rattle.list_header.specs.Measured.{Counted, limit, most_count}
use Rattle.record_laws.proofs.Coalescing.{turn_apart, turn_both_done, turn_done, turn_held, turn_joined}
use Rattle.record_laws.specs.Pending.{and_later, finish}
use Rattle.coalescing.proofs.HeldBlocks.{held_joins, held_printed, holds_joined}
use Rattle.coalescing.specs.Held.{HeldBlock, Holds, behind_pending, held_after, joined_to, joins_pending, of_option, pending_bytes, pending_count}
use Rattle.coalescing.specs.Steps.{OtherRecord, Progress, StepTo, block_lays, block_stepped, pending_laid, record_stepped}
use Rattle.coalescing.specs.declared.PendingBlock.{PendingBlock}
use Rattle.coalescing.specs.declared.Stepped.{Stepped}
use Rattle.std.specs.Prelude as std

-- where the list goes on and how many records it has, behind the one that was held back
pub pending_counted : (contig held : List ℕ) (pending : std.Option PendingBlock) (at count : ℕ) {behind at' count' : ℕ}
    → behind ≡ at + length (pending_bytes contig held pending) → at' ≡ min limit behind → count' ≡ pending_count pending count
    → ◌≡◌ {A = Stepped} (record { pending = std.None; at = at'; count = count' }) (pending_laid contig held pending at count)
unfolding pending_laid behind_pending
pending_counted contig held pending at count b a c = rw (a, b, c)

-- the list goes on at 2^63 at most
pub within_limit : (contig held : List ℕ) (pending : std.Option PendingBlock) (at count : ℕ) {r : Stepped} → r ≡ pending_laid contig held pending at count
    → r.at ≤ 2 ^ 63
unfolding pending_laid behind_pending
within_limit contig held pending at count e = rw e (omega arith)

-- what a block leaves that does not join: it is held back in place of the one that was laid
pub held_instead : (contig held : List ℕ) (pending : std.Option PendingBlock) (loc : GenomeLoc) (letter : ℕ) (fresh : List ℕ) (at count : ℕ)
    → joins_pending held pending loc.start.0 letter fresh ≡ false
    → {before : Stepped} {len : ℕ} → before ≡ pending_laid contig held pending at count → len ≡ 0 + length fresh
    → ◌≡◌ {A = Stepped} (record { pending = std.Some (record { loc = loc; letter = letter; len = len }); at = before.at; count = before.count })
    (block_stepped contig held pending loc letter fresh at count)
unfolding block_stepped pending_laid
held_instead contig held pending loc letter fresh at count apart laid lines = rw (apart, laid, lines, zero-add (length fresh))

module _ (samples : ℕ) (contig held : List ℕ) (d₀ bytes : List ℕ) (records : ℕ) where
  -- the record that was held back is laid
  count_laid : (pending : std.Option PendingBlock) (waiting : Option Record) → Holds samples contig held pending waiting → {count : ℕ}
      → Counted records count → Counted (records + length (of_option waiting)) (pending_count pending count)
  unfolding Holds of_option pending_count
  count_laid std.None waiting h c = rw (h, add-zero records) c
  count_laid (std.Some block) waiting (p, e, b) c = rw e (counted_more c)

  pub laid_pending : (pending : std.Option PendingBlock) (waiting : Option Record) → Holds samples contig held pending waiting
      → {out out' : List ℕ} {at count r : ℕ} → Progress d₀ bytes records out at count
      → Laid out at (pending_bytes contig held pending) out' r
      → Progress d₀ (bytes ++ flat_map printed_record (of_option waiting)) (records + length (of_option waiting)) out' (min limit r) (pending_count pending count)
  laid_pending pending waiting h p l = record {
    measured = rw (← held_printed samples contig held pending waiting h) (measured_more p.measured l);
    counted = count_laid pending waiting h p.counted;
  }

  -- ---- a block

  module _ (loc : GenomeLoc) (letter : ℕ) (fresh : List ℕ) (new : Record)
      (b : HeldBlock samples contig fresh (record { loc = loc; letter = letter; len = length fresh }) new) where
    lines : flat_map printed_sample_data b.values ≡ fresh
    lines = sym b.printed ∙ take-length fresh

    same_joins : (block : PendingBlock) (p : Record) → HeldBlock samples contig held block p
        → joins_pending held (std.Some block) loc.start.0 letter fresh ≡ coalesces p new
    same_joins block p h =
        held_joins samples contig held block p h loc.start.0 loc.end.0 letter b.values fresh b.derived lines
        ∙ ap (coalesces p) (sym b.record_is)

    step_joined : (pending : std.Option PendingBlock) (waiting : Option Record) → Holds samples contig held pending waiting
        → joins_pending held pending loc.start.0 letter fresh ≡ true
        → (out : List ℕ) (at count : ℕ) → Progress d₀ bytes records out at count
        → StepTo samples contig held out waiting new d₀ bytes records (record { pending = joined_to pending loc.end; at = at; count = count })
    unfolding Holds joins_pending flat_map
    step_joined std.None waiting h j out at count p = clash j refl
    step_joined (std.Some block) waiting (q, e, h) j out at count p =
        let c : coalesces q new ≡ true = sym (same_joins block q h) ∙ j in
        record {
          laid = [];
          waits = some (coalesced q new);
          holds = rw b.record_is (holds_joined samples contig held block q h loc.start.0 loc.end letter b.values
              b.ordered b.in_range_lem (rw (← b.record_is) c));
          progress = rw (append-nil bytes, add-zero records) p;
          turned = λ done m later k. rw (e, append-nil done) (turn_joined done m later q k c);
        }

    -- the new block is held back
    held_new : (after : List ℕ) (len : ℕ) → length fresh ≤ length held → Laid held 0 fresh after len
        → HeldBlock samples contig after (record { loc = loc; letter = letter; len = len }) new
    held_new after len room l =
        let same : len ≡ length fresh = l.next ∙ zero-add (length fresh) in
        record {
          values = b.values;
          record_is = b.record_is;
          derived = b.derived;
          all_samples = b.all_samples;
          printed =
              rw (same, l.laid, sets_front held fresh room) (take_at fresh (drop (length fresh) held) (length fresh) refl ∙ sym lines);
          ordered = b.ordered;
          in_range_lem = b.in_range_lem;
        }

    apart_turned : (pending : std.Option PendingBlock) (waiting : Option Record) → Holds samples contig held pending waiting
        → joins_pending held pending loc.start.0 letter fresh ≡ false
        → (done : List Record) (m : Checked Record) (c : Checked (List Record)) → m ≡ accepted new
        → finish done waiting (and_later m c) ≡ finish (done ++ of_option waiting) (some new) c
    unfolding Holds of_option
    apart_turned std.None waiting h j done m c k = rw (h, append-nil done) (turn_held done m c k)
    apart_turned (std.Some block) waiting (q, e, h) j done m c k =
        rw e (turn_apart done m c q k (sym (same_joins block q h) ∙ j))

    step_apart : (pending : std.Option PendingBlock) (waiting : Option Record) → Holds samples contig held pending waiting
        → joins_pending held pending loc.start.0 letter fresh ≡ false
        → (after : List ℕ) (len : ℕ) → length fresh ≤ length held → Laid held 0 fresh after len
        → (out out' : List ℕ) (at count r : ℕ) → Progress d₀ bytes records out at count
        → Laid out at (pending_bytes contig held pending) out' r
        → StepTo samples contig after out' waiting new d₀ bytes records
        (record { pending = std.Some (record { loc = loc; letter = letter; len = len }); at = min limit r; count = pending_count pending count })
    unfolding Holds
    step_apart pending waiting h j after len room l out out' at count r p laid = record {
      laid = of_option waiting;
      waits = some new;
      holds = (new, refl, held_new after len room l);
      progress = laid_pending pending waiting h p laid;
      turned = apart_turned pending waiting h j;
    }

    -- what `coalesce_homref_blocks` leaves is such a step
    pub block_step : (pending : std.Option PendingBlock) (waiting : Option Record) → Holds samples contig held pending waiting → length fresh ≤ length held
        → (out : List ℕ) (at count : ℕ) → Progress d₀ bytes records out at count
        → (held' out' : List ℕ) (r : Stepped)
        → r ≡ block_stepped contig held pending loc letter fresh at count
        → out' ≡ sets out at (block_lays contig held pending loc.start.0 letter fresh)
        → held' ≡ held_after held pending loc.start.0 letter fresh
        → StepTo samples contig held' out' waiting new d₀ bytes records r
    unfolding block_stepped block_lays held_after behind_pending
    block_step pending waiting h room out at count p held' out' r stepped laid after =
        rw (stepped, laid, after) (go (joins_pending held pending loc.start.0 letter fresh) refl)
      where
        go : (j : Bool) → joins_pending held pending loc.start.0 letter fresh ≡ j
            → StepTo samples contig (cond j held (sets held 0 fresh))
            (sets out at (cond j [] (pending_bytes contig held pending)))
            waiting new d₀ bytes records
            (cond j (record { pending = joined_to pending loc.end; at = at; count = count })
            (record {
              pending = std.Some (record { loc = loc; letter = letter; len = length fresh });
              at = behind_pending contig held pending at;
              count = pending_count pending count;
            }))
        go true j = step_joined pending waiting h j out at count p
        go false j =
            step_apart pending waiting h j _ _ room (record { next = sym (zero-add (length fresh)); laid = refl }) out _ at count _ p
            (record { next = refl; laid = refl })

  -- ---- another record

  module _ (lines : List ℕ) (new : Record) (o : OtherRecord lines new) where
    done_turned : (pending : std.Option PendingBlock) (waiting : Option Record) → Holds samples contig held pending waiting
        → (done : List Record) (m : Checked Record) (c : Checked (List Record)) → m ≡ accepted new
        → finish done waiting (and_later m c) ≡ finish (done ++ (of_option waiting ++ (new ∷ []))) none c
    unfolding Holds of_option
    done_turned std.None waiting h done m c k = rw h (turn_done done m c k o.not_block)
    done_turned (std.Some block) waiting (q, e, h) done m c k = rw e (turn_both_done done m c q k o.not_block)

    step_other : (pending : std.Option PendingBlock) (waiting : Option Record) → Holds samples contig held pending waiting
        → (out middle out' : List ℕ) (at count r end : ℕ) → Progress d₀ bytes records out at count
        → Laid out at (pending_bytes contig held pending) middle r
        → Laid middle (min limit r) lines out' end
        → StepTo samples contig held out' waiting new d₀ bytes records
        (record { pending = std.None; at = min limit end; count = min most_count (pending_count pending count + 1) })
    unfolding Holds
    step_other pending waiting h out middle out' at count r end p laid laid-new =
        let q = laid_pending pending waiting h p laid in
        record {
          laid = of_option waiting ++ (new ∷ []);
          waits = none;
          holds = refl;
          progress = record {
            measured = rw bytes_are (measured_more q.measured (rw (← o.printed) at laid-new));
            counted = rw one_more (counted_more q.counted);
          };
          turned = done_turned pending waiting h;
        }
      where
        bytes_are : bytes ++ flat_map printed_record (of_option waiting ++ (new ∷ [])) ≡ bytes ++ flat_map printed_record (of_option waiting) ++ printed_record new
        bytes_are =
            ap (λ (l : List ℕ). bytes ++ l) (flat_map_append printed_record (of_option waiting) (new ∷ []) ∙ ap (λ (l : List ℕ). flat_map printed_record (of_option waiting) ++ l) alone)
            ∙ sym (append_assoc bytes (flat_map printed_record (of_option waiting)) (printed_record new))
          where
            alone : flat_map printed_record (new ∷ []) ≡ printed_record new
            alone = unfold flat_map in append-nil (printed_record new)

        one_more : records + length (of_option waiting ++ (new ∷ [])) ≡ records + length (of_option waiting) + 1
        one_more = omega (arith, length-append (of_option waiting) (new ∷ []))

    -- the lines of such a record, laid behind what `lay_pending` leaves, are such a step
    pub record_step : (pending : std.Option PendingBlock) (waiting : Option Record) → Holds samples contig held pending waiting
        → (out : List ℕ) (at count : ℕ) → Progress d₀ bytes records out at count
        → (before r : Stepped) → before ≡ pending_laid contig held pending at count → r ≡ record_stepped before.at lines before.count
        → (middle out' : List ℕ) → middle ≡ sets out at (pending_bytes contig held pending) → out' ≡ sets middle before.at lines
        → StepTo samples contig held out' waiting new d₀ bytes records r
    unfolding pending_laid record_stepped behind_pending
    record_step pending waiting h out at count p before r left stepped middle out' laid laid-new =
        rw (stepped, laid-new, laid, left)
        (step_other pending waiting h out _ _ at count _ _ p (record { next = refl; laid = refl }) (record { next = refl; laid = refl }))
