-- A record that was read: whether it is called, and the list with it.
use Prim.Native.Nat.{◌+◌, min, suc, ℕ}
use borrow.Author.Tests.{eq-eqb, eqb-true}
use lib.Dec.{eqb}
use lib.ListN.{length, length-append, length-map}
use mathlib.Core.Bool.{Bool, ◌&&◌, false, not, true}
use mathlib.Core.List.{List, [], ◌++◌, ◌∷◌, append_assoc, append-nil, flat_map, map-append}
use mathlib.Core.Path.{◌∙◌, ◌≡◌, ap, refl, sym}
use native.Mathlib.Omega.{arith}
use Rattle.called_lines.proofs.SoundCalled.{called_fits, called_is}
use Rattle.called_lines.specs.Rows as called
use Rattle.called_lines.specs.Rows.{CalledRecordFits, RecordRows, row_data, row_record}
use Rattle.definitions.specs.Alleles.{alleles_of, only_non_ref}
use Rattle.definitions.specs.Bytes.{comma, fields_of}
use Rattle.definitions.specs.CalledList.{called_record, called_records, is_called, printed_called_record}
use Rattle.definitions.specs.Lists.{filter_by}
use Rattle.definitions.specs.Records.{Record}
use Rattle.kv_write.specs.Laid.{Laid}
use Rattle.laws.proofs.Members.{filter_append, filter_no, filter_yes, flat_map_append}
use Rattle.laws.proofs.Tests.{bool_ext}
use Rattle.list_header.proofs.TwoPasses.{counted_more, measured_fits, measured_more}
use Rattle.list_header.specs.Measured.{limit, most_count}
use Rattle.list_reader.specs.RecordGroups.{alts_at, record_from, sample_at, without_gt}
use Rattle.list_reader.specs.declared.RecordPlace.{RecordPlace}
use Rattle.site_groups.specs.SiteGroups.{bytes_of}
use Rattle.laws.proofs.AllelesAsRead.{allele_as_read, ref_alts_as_read}
use Rattle.genotype_gvcfs.specs.Walk.{CalledLaid, LayReady, read_with}

-- ---- one more record

called_one : (r : Record) (before : List Record) → is_called r ≡ true → called_records (before ++ (r ∷ [])) ≡ called_records before ++ (called_record r ∷ [])
unfolding called_records filter_by
called_one r before e = rw (filter_append is_called before (r ∷ []), filter_yes is_called r [] e) (map-append called_record (filter_by is_called before) (r ∷ []))

called_none : (r : Record) (before : List Record) → is_called r ≡ false → called_records (before ++ (r ∷ [])) ≡ called_records before
unfolding called_records filter_by
called_none r before e = rw (filter_append is_called before (r ∷ []), filter_no is_called r [] e, append-nil)

two_alleles : (n : ℕ) → eqb n 1 ≡ eqb (suc n) 2
two_alleles n = bool_ext _ _ (λ e. let h = eqb-true n 1 e in eq-eqb (suc n) 2 (omega arith)) (λ e. let h = eqb-true (suc n) 2 e in eq-eqb n 1 (omega arith))

and_true : (b : Bool) → b && true ≡ b
and_true true = refl
and_true false = refl

module _ {s : List ℕ} {p : RecordPlace} {rows : List ℕ} {samples : ℕ} {out : List ℕ} {at count : ℕ} (ready : LayReady s p rows samples out at count) where
  abbrev new : Record
  new = record_from s p.contig p.pos p.end p.alleles ready.sample_data

  alts_count : length new.alleles.alts ≡ alts_at s p.alleles
  unfolding ref_alts_as_read
  alts_count = length-map (fields_of comma (bytes_of s p.alleles.alts)) allele_as_read

  pub by_numbers : is_called new ≡ (not (eqb p.count 2) && p.has_pl)
  unfolding is_called only_non_ref
  by_numbers = rw (ready.sound.alleles.non_ref, and_true (eqb (length new.alleles.alts) 1), alts_count, two_alleles (alts_at s p.alleles), ← ready.alleles, ← ready.has_pl)

  -- it is not called
  pub laid_none : is_called new ≡ false → CalledLaid ready.d₀ ready.bytes (read_with ready) out at count
  laid_none e = record {
    measured = rw (called_none new ready.before e) ready.laid.measured;
    counted = rw (called_none new ready.before e) ready.laid.counted;
  }

  -- it is called: what laying it asks
  same_rows : RecordRows s (bytes_of s p.contig) p.pos.0 (bytes_of s p.alleles.refs) (bytes_of s p.alleles.alts) rows samples new
  unfolding without_gt sample_at row_data
  same_rows = record { same_contig = refl; same_pos = refl; same_alleles = refl; same_data = unfold called.without_gt in ready.table }

  pub record_fits : CalledRecordFits s (bytes_of s p.contig) p.pos.0 (bytes_of s p.alleles.refs) (bytes_of s p.alleles.alts) p.count rows samples at
  unfolding alleles_of
  record_fits = called_fits same_rows ready.sound ready.few (ready.alleles ∙ ap suc (sym alts_count)) (measured_fits ready.laid.measured _ (omega arith))

  -- and it is laid
  pub laid_one : {out' : List ℕ} {end : ℕ} → is_called new ≡ true
      → Laid out at (printed_called_record (called_record (row_record s (bytes_of s p.contig) p.pos.0 (bytes_of s p.alleles.refs) (bytes_of s p.alleles.alts) rows samples))) out' end
      → CalledLaid ready.d₀ ready.bytes (read_with ready) out' (min limit end) (min most_count (count + 1))
  unfolding flat_map
  laid_one e l = record {
    measured = rw (called_one new ready.before e, flat_map_append, append-nil, ← append_assoc, called_is same_rows) (measured_more ready.laid.measured l);
    counted = rw (called_one new ready.before e, length-append) (counted_more ready.laid.counted);
  }
