-- The lines of a record that is no block: what laying them asks, line by line of the head, and of the samples' lines behind it.
use Prim.Native.Nat.{◌+◌, ◌<◌, ◌^◌, ℕ}
use lib.ListN.{length}
use mathlib.Core.List.{List}
use native.Mathlib.Omega.{arith}
use Rattle.definitions.specs.Lines.{line}
use Rattle.kv_write.specs.Laid.{Laid}
use Rattle.record_lines.proofs.Head.{alt_line, head_laid, head_parts, ref_line_lem}
use Rattle.record_lines.specs.Head.{PlaceFits, head_of, place_of}
use Rattle.record_lines.specs.Records.{RecordFits}
use Rattle.record_lines.specs.Samples.{SamplesPrintable}

module _ {s rows : List ℕ} {samples : ℕ} {contig : List ℕ} {position : ℕ} {allele own alts : List ℕ} {at : ℕ}
    (h : RecordFits s rows samples contig position allele own alts at) where
  pub record_place_fits : PlaceFits contig position position at
  record_place_fits = record {
    pos = h.in_range_lem;
    end = h.in_range_lem;
    fits = omega (arith, h.fits, head_parts contig position position allele alts);
  }

  module _ {d d₁ : List ℕ} {at₁ : ℕ} (place : Laid d at (place_of contig position position) d₁ at₁) where
    pub record_ref_fits : at₁ + length (line "ref" allele) < 2 ^ 64
    record_ref_fits = rw (ref_line_lem allele) (omega (arith, h.fits, place.next, head_parts contig position position allele alts))

    module _ {d₂ : List ℕ} {at₂ : ℕ} (ref : Laid d₁ at₁ (line "ref" allele) d₂ at₂) where
      pub record_alts_fit : at₂ + length (alt_line alts) < 2 ^ 64
      record_alts_fit =
          let behind = rw (ref_line_lem allele) at ref in
          omega (arith, h.fits, place.next, behind.next, head_parts contig position position allele alts)

      module _ {d₃ : List ℕ} {at₃ : ℕ} (rest : Laid d₂ at₂ (alt_line alts) d₃ at₃) where
        pub record_head_laid : Laid d at (head_of contig position position allele alts) d₃ at₃
        record_head_laid = head_laid contig position position allele alts place (rw (ref_line_lem allele) at ref) rest

        pub record_samples_fit : SamplesPrintable s rows samples own alts at₃
        record_samples_fit = record { enough = h.enough; sound = h.sound; few = h.few; fits = omega (arith, h.fits, record_head_laid.next) }
