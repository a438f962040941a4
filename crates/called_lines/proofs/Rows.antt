-- The samples of a table: what a row says, and the lines of the samples from one on.
-- Assumes nothing.
use Prim.Native.Nat.{◌+◌, ◌-◌, ◌<◌, ◌≤◌, suc, ℕ}
use lib.ListN.{length}
use lib.Seq.{sets}
use mathlib.Core.List.{List, [], ◌++◌, flat_map}
use mathlib.Core.Option.{Option}
use mathlib.Core.Path.{◌≡◌}
use native.Mathlib.Nat.{sub-zero}
use native.Mathlib.Omega.{arith}
use Rattle.definitions.specs.CalledList.{called_data}
use Rattle.definitions.specs.Lists.{numbers_from}
use Rattle.laws.proofs.Every.{every_member, if_there}
use Rattle.laws.proofs.Members.{numbers_member}
use Rattle.record_lines.proofs.SiteValues.{Front, first_read, numbers_front, numbers_present, numbers_of}
use Rattle.tables.specs.Tables.{ad_at, dp_at, first_numbers_at, pl_at}
use Rattle.called_lines.specs.Rows.{Entries, SamplePrintable, SamplesPrintable, called_sample, called_samples, row_data}
use Rattle.called_lines.specs.SampleValues.{CalledPrintable, own_values}

-- ---- a row

module _ (s rows : List ℕ) (sample : ℕ) where
  abbrev pub ad_of : List ℕ
  ad_of = numbers_of (ad_at s rows sample)

  abbrev pub pl_of : List ℕ
  pl_of = numbers_of (pl_at s rows sample)

  -- AD and PL stand at the fronts of the arrays
  module _ (n : ℕ) (few : n ≤ 16) (entries : Entries n (row_data s rows sample)) (before : List ℕ) {after : List ℕ} {r : ℕ} where
    pub ad_front : length before ≡ 16 → r ≡ length ad_of → after ≡ sets before 0 (first_numbers_at 13 4 s rows sample)
        → Front ad_of after r
    unfolding row_data
    ad_front long =
        numbers_front (ad_at s rows sample) _ before (first_read 13 4 s rows sample)
        (rw long (if_there (ad_at s rows sample) (λ l e. omega arith) entries.ad))

    pub pl_front : length before ≡ 136 → r ≡ length pl_of → after ≡ sets before 0 (first_numbers_at 16 10 s rows sample)
        → Front pl_of after r
    unfolding row_data
    pl_front long = numbers_front (pl_at s rows sample) _ before (first_read 16 10 s rows sample) (rw long entries.pl)

  module _ (n x : ℕ) {dp : Option ℕ} {ad pl : List ℕ} (d : dp ≡ dp_at rows sample) (a : ad ≡ ad_of) (p : pl ≡ pl_of) where
    -- what is said by these values is what is said by the row
    pub row_called : called_data n x (own_values dp ad pl) ≡ called_data n x (row_data s rows sample)
    unfolding called_data own_values row_data
    row_called = rw (d, a, p, numbers_present 13 4 s rows sample, numbers_present 16 10 s rows sample)

    -- what `put_called_data` asks
    pub row_printable : {at : ℕ} → SamplePrintable s n x rows sample at → CalledPrintable n x dp ad pl at
    unfolding row_data
    row_printable pre = record {
      at_least = pre.at_least;
      at_most = pre.at_most;
      dropped = pre.dropped;
      entries = rw (a, numbers_present 13 4 s rows sample) pre.entries.ad;
      fits = rw row_called pre.fits;
    }

-- ---- the samples

module _ (s : List ℕ) (n x : ℕ) (rows : List ℕ) (samples : ℕ) where
  -- the lines of those from a sample on
  unfoldable pub samples_from : ℕ → List ℕ
  samples_from sample = flat_map (called_sample s n x rows) (numbers_from sample (samples - sample))

  pub samples_all : called_samples s n x rows samples ≡ samples_from 0
  unfolding samples_from called_samples
  samples_all = rw sub-zero

  pub samples_next : (sample : ℕ) → sample < samples → samples_from sample ≡ called_sample s n x rows sample ++ samples_from (sample + 1)
  unfolding samples_from numbers_from flat_map
  samples_next sample h =
      let k : samples - sample ≡ suc (samples - (sample + 1)) = omega arith in
      let m : suc sample ≡ sample + 1 = omega arith in
      rw k (rw m)

  pub samples_none : (sample : ℕ) → samples ≤ sample → samples_from sample ≡ []
  unfolding samples_from numbers_from flat_map
  samples_none sample h = let k : samples - sample ≡ 0 = omega arith in rw k

  -- what is known of a sample
  pub sample_entries : (sample : ℕ) {at : ℕ} → SamplesPrintable s n x rows samples at → sample < samples → Entries n (row_data s rows sample)
  sample_entries sample pre h = every_member (numbers_member 0 samples (omega arith) (omega arith)) pre.entries
