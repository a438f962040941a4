-- The walk over the record groups: the answer for all of them is the answer from here on, behind the records that are read.
use Prim.Native.Nat.{◌+◌, ◌-◌, ◌<◌, ◌≤◌, ℕ}
use borrow.Author.Tests.{le-ltb}
use lib.ListN.{drop, length, length-append, length-reverse}
use mathlib.Core.List.{List, [], ◌++◌, ◌∷◌, append-nil, flat_map, reverse, reverse-append, reverse-reverse}
use mathlib.Core.Option.{get_or}
use mathlib.Core.Path.{◌∙◌, ◌≡◌, ap, refl, sym}
use native.Mathlib.Omega.{arith}
use Rattle.answers.specs.Answered.{row_of}
use Rattle.answers.specs.declared.Refusal.{Refusal}
use Rattle.answers.specs.declared.Refusal.TheVariants as refusal
use Rattle.bio_ids.specs.declared.GenomePosition.{GenomePosition}
use Rattle.std.specs.Prelude as std
use Rattle.cohort.proofs.FirstGroups.{some_lines}
use Rattle.definitions.specs.CalledList.{called_records}
use Rattle.definitions.specs.Checked.{Checked, accepted, read_each, refused}
use Rattle.definitions.specs.Lines.{lines_of}
use Rattle.definitions.specs.ListReader.{record_lines, record_read, sample_lines, with_missing}
use Rattle.definitions.specs.Lists.{filter_by, groups_of}
use Rattle.definitions.specs.Records.{Record, record_end}
use Rattle.kv_text.proofs.Groups.{continued, continued_end, continued_next, continued_refused, continued_start}
use Rattle.laws.proofs.Checked.{not_required}
use Rattle.laws.proofs.Lines.{lines_end}
use Rattle.laws.proofs.SoundList.{record_sound}
use Rattle.list_header.proofs.TwoPasses.{counted_none}
use Rattle.list_reader.specs.RecordGroups.{PreviousOf, RecordTo, RefusedBy, end_option, group_lines, record_from, record_group}
use Rattle.list_reader.specs.declared.PreviousRecord.{PreviousRecord}
use Rattle.list_reader.specs.declared.RecordPlace.{RecordPlace}
use Rattle.list_walk.proofs.MissingGroups.{all_accepted, all_ended, all_refused, more_refused}
use Rattle.genotype_gvcfs.specs.Walk.{CalledLaid, LayReady, RecordsWalked, WalkReady, read_with, records_from}
use Rattle.genotype_gvcfs.specs.declared.ListEnd.{ListEnd}

module _ (s : List ℕ) (at₀ samples records : ℕ) where
  -- what the groups from an offset on read as, behind these records, with which they are all
  abbrev left : List Record → ℕ → Checked (List Record)
  left done next =
      continued (reverse done)
      (read_each (record_read samples records) (reverse done)
      (with_missing (records - length done) (groups_of (group_lines samples) (lines_of (drop next s)))))

  some_size : 0 < group_lines samples
  unfolding record_lines sample_lines
  some_size = omega arith

  module _ {rows₀ out₀ : List ℕ} {from : ℕ} (ready : WalkReady samples rows₀ out₀ from) where
    -- the called ones of the records read so far are laid, and those from here on are left
    pub record Going (out : List ℕ) (next read : ℕ) (last : std.Option PreviousRecord) (list : ListEnd) : Type 0 where
      pub done : List Record
      pub left_is : left done next ≡ records_from samples records s at₀
      pub read_is : read ≡ length done
      pub last_is : PreviousOf s (reverse done) last
      pub laid : CalledLaid ready.d₀ ready.bytes done out list.at list.count

    pub going_start : Going out₀ at₀ 0 std.None (record { at = from; count = 0 })
    unfolding PreviousOf records_from called_records filter_by flat_map
    going_start = record {
      done = [];
      left_is = let e : records - 0 ≡ records = omega arith in rw e (sym (continued_start _));
      read_is = refl;
      last_is = refl;
      laid = record { measured = rw append-nil ready.measured; counted = counted_none };
    }

    module _ {out : List ℕ} {next read : ℕ} {last : std.Option PreviousRecord} {list : ListEnd} (g : Going out next read last list) where
      before_count : length (reverse g.done) ≡ read
      before_count = length-reverse g.done ∙ sym g.read_is

      refused_left : (row : ℕ)
          → read_each (record_read samples records) (reverse g.done) (with_missing (records - length g.done) (groups_of (group_lines samples) (lines_of (drop next s)))) ≡ refused row
          → records_from samples records s at₀ ≡ refused row
      refused_left row e = sym g.left_is ∙ ap (continued (reverse g.done)) e ∙ continued_refused (reverse g.done) row

      -- ---- all groups that there must be were read

      module _ (all : records ≤ read) where
        pub going_past : next < length s → RecordsWalked (records_from samples records s at₀) records ready.d₀ ready.bytes out (std.Err refusal.Spelling)
        unfolding RecordsWalked record_read
        going_past more = refused_left 1
            (more_refused (group_lines samples) some_size (record_read samples records) (reverse g.done) (records - length g.done) (lines_of (drop next s)) (some_lines s next more)
            (not_required 1 _ _ (le-ltb (length (reverse g.done)) records (omega (arith, before_count)))))

        pub going_end : read ≤ records → length s ≤ next
            → RecordsWalked (records_from samples records s at₀) records ready.d₀ ready.bytes out (std.Ok list)
        unfolding RecordsWalked
        going_end few past = record {
          list = g.done;
          value =
              let none_left : records - length g.done ≡ 0 = omega (arith, g.read_is) in
              sym g.left_is
              ∙ rw none_left (ap (continued (reverse g.done)) (all_ended (group_lines samples) some_size (record_read samples records) (reverse g.done) (lines_of (drop next s)) (lines_end s next past)))
              ∙ continued_end (reverse g.done)
              ∙ ap {B = Checked (List Record)} accepted (reverse-reverse g.done);
          few = omega (arith, g.read_is);
          laid = g.laid;
        }

      -- ---- a group must be there

      module _ (more : read < records) where
        fewer : length (reverse g.done) < records
        fewer = omega (arith, before_count)

        -- it is refused
        pub going_refused : (r : Refusal) → RefusedBy s next samples last (row_of r)
            → RecordsWalked (records_from samples records s at₀) records ready.d₀ ready.bytes out (std.Err r)
        unfolding RecordsWalked
        going_refused r says = refused_left (row_of r)
            (all_refused (group_lines samples) some_size (record_read samples records) (reverse g.done) (records - length g.done) (lines_of (drop next s)) (omega (arith, g.read_is))
            (says records (reverse g.done) fewer g.last_is))

        -- it is a record
        module _ {rows₁ rows : List ℕ} {p : RecordPlace} (to : RecordTo s next samples last rows₁ rows p) where
          abbrev new : Record
          new = record_from s p.contig p.pos p.end p.alleles to.sample_data

          read_now : record_read samples records (reverse g.done) (record_group s next samples) ≡ accepted new
          read_now = to.value records (reverse g.done) fewer g.last_is

          pub lay_ready : LayReady s p rows samples out list.at list.count
          lay_ready = record {
            sample_data = to.sample_data;
            sound = (record_sound samples records (reverse g.done) (record_group s next samples) new read_now).sound;
            table = to.table;
            alleles = to.count;
            has_pl = to.has_pl;
            few = ready.few;
            d₀ = ready.d₀;
            bytes = ready.bytes;
            before = g.done;
            laid = g.laid;
          }

          pub going_next : {out' : List ℕ} {list' : ListEnd} {last : GenomePosition} → last.0 ≡ get_or (end_option p.end) p.pos.0
              → ((l : LayReady s p rows samples out list.at list.count) → CalledLaid l.d₀ l.bytes (read_with l) out' list'.at list'.count)
              → Going out' p.next (read + 1) (std.Some (record { contig = p.contig; end = last })) list'
          unfolding PreviousOf lay_ready record_end
          going_next last_is lays = record {
            done = g.done ++ (new ∷ []);
            left_is = turned;
            read_is = simp length-append (omega (arith, g.read_is));
            last_is = record {
              last = new;
              earlier = reverse g.done;
              nearest = reverse-append g.done (new ∷ []);
              on = refl;
              to = sym last_is;
            };
            laid = lays lay_ready;
          }
            where
              turned : left (g.done ++ (new ∷ [])) p.next ≡ records_from samples records s at₀
              turned =
                  let one_less : records - length (g.done ++ (new ∷ [])) ≡ records - length g.done - 1 = simp length-append (omega arith) in
                  rw (reverse-append g.done (new ∷ []), one_less, ← to.behind.lines)
                  (sym (continued_next (reverse g.done) new _)
                  ∙ ap (continued (reverse g.done))
                  (sym (all_accepted (group_lines samples) some_size (record_read samples records) (reverse g.done) (records - length g.done) (lines_of (drop next s))
                  (omega (arith, g.read_is)) (some_lines s next (omega (arith, to.forward, to.within))) read_now))
                  ∙ g.left_is)
