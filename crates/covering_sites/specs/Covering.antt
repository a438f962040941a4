-- The sites of a table, by their numbers: those of a sample, those on a contig, and those that cover a position.
use Rattle.std.specs.Prelude.{◌%◌, ◌*◌, ◌+◌, ◌-◌, ◌<◌, ◌≤◌, ℕ, eqb, leb, get_or, length, Bool, ◌&&◌, cond, ◌≡◌}
use Rattle.std.proofs.lemmas.List.Edits.{sets}
use mathlib.Core.List.{List, [], ◌∷◌, filter_map, map}
use Rattle.std.proofs.Math.Option
use Rattle.std.proofs.Math.Option.{Option, none, some}
use Rattle.definitions.specs.Limits.{max_sites}
use Rattle.definitions.specs.Lists.{filter_by, numbers_from}
use Rattle.definitions.specs.Numbers.{max_number}
use Rattle.sorted_places.specs.Sorted.{sorted}
use Rattle.tables.specs.Tables.{column}
use Rattle.covering_sites.specs.Runs.{only_when, run_at}

-- ---- sites in the order of their starts

-- a sample's sites, in file order
unfoldable pub sample_sites : List ℕ → ℕ → ℕ → List ℕ
sample_sites rows count sample = filter_by (λ i. eqb (column 0 rows i) sample) (numbers_from 0 count)

-- the key of a site: keys ascend by start, and of sites with equal starts the first in the file has the greatest
unfoldable pub site_key : List ℕ → ℕ → ℕ
site_key rows i = column 2 rows i * 4096 + (4095 - i)

-- the key of a site if it is the sample's
abbrev pub own_key : List ℕ → ℕ → ℕ → List ℕ
own_key rows sample i = only_when (eqb (column 0 rows i) sample) (site_key rows i)

-- the site with this key
unfoldable pub key_site : ℕ → ℕ
key_site key = 4095 - key % 4096

-- the key of a site is a number of 64 bits, from which the site is told again
pub record KeyFits (rows : List ℕ) (i : ℕ) : Type 0 where
  pub few : i < max_sites
  pub start : column 2 rows i ≤ max_number

-- those of so many sites are
pub record KeysFit (rows : List ℕ) (count : ℕ) : Type 0 where
  pub few : count ≤ max_sites
  pub starts : (i : ℕ) → i < count → column 2 rows i ≤ max_number

-- the keys of a sample's sites, ascending
unfoldable pub sample_keys : List ℕ → ℕ → ℕ → List ℕ
sample_keys rows count sample = sorted (map (site_key rows) (sample_sites rows count sample))

-- ---- sites on a contig

-- those of some sites, given by their keys, that are on a contig, which is named by the number of its first site
unfoldable pub on_contig : List ℕ → ℕ → List ℕ → List ℕ
on_contig rows contig keys = filter_by (λ i. eqb (column 1 rows i) contig) (map key_site keys)

-- a sample's sites on a contig, in the order of their starts
abbrev pub contig_sites : List ℕ → ℕ → ℕ → ℕ → List ℕ
contig_sites rows count contig sample = on_contig rows contig (sample_keys rows count sample)

-- those of a sample's run that are on a contig
unfoldable pub chosen_run : List ℕ → ℕ → List ℕ → List ℕ → ℕ → List ℕ
chosen_run rows contig list bounds x = on_contig rows contig (run_at list bounds x)

-- in each run starts ascend
pub record StartsAscend (rows chosen bounds : List ℕ) (samples : ℕ) : Type 0 where
  pub ascend : (x : ℕ) → x < samples → (j k : ℕ) → get_or bounds x 0 ≤ j → j ≤ k → k < get_or bounds (x + 1) 0
      → column 2 rows (get_or chosen j 0) ≤ column 2 rows (get_or chosen k 0)

-- so they do in one run by itself
pub record RunAscends (rows run : List ℕ) : Type 0 where
  pub ascend : (j k : ℕ) → j ≤ k → k < length run → column 2 rows (get_or run j 0) ≤ column 2 rows (get_or run k 0)

-- ---- sites that cover a position

-- the position lies from the site's start to its end
unfoldable pub row_covers : List ℕ → ℕ → ℕ → Bool
row_covers rows position i = leb (column 2 rows i) position && leb position (column 3 rows i)

-- the last number that passes the test; if none does, what is given
unfoldable pub last_from : (ℕ → Bool) → Option ℕ → List ℕ → Option ℕ
last_from q so_far [] = so_far
last_from q so_far (i ∷ l) = last_from q (cond (q i) (some i) so_far) l

-- the last site of a run that covers the position
unfoldable pub last_covering : List ℕ → ℕ → List ℕ → Option ℕ
last_covering rows position = last_from (row_covers rows position) none

-- that of each run that has one
unfoldable pub covering_rows : List ℕ → ℕ → ℕ → (ℕ → List ℕ) → List ℕ
covering_rows rows position samples run = filter_map (λ x. last_covering rows position (run x)) (numbers_from 0 samples)

-- the samples whose runs have one
unfoldable pub covering_samples : List ℕ → ℕ → ℕ → (ℕ → List ℕ) → List ℕ
covering_samples rows position samples run = filter_map (λ x. Option.map (λ _. x) (last_covering rows position (run x))) (numbers_from 0 samples)

-- all of them are stored from the beginning on, their samples beside them, and r is how many they are
pub record Found (before all after samples-before samples samples-after : List ℕ) (r : ℕ) : Type 0 where
  pub count : r ≡ length all
  pub stored : after ≡ sets before 0 all
  pub owned : samples-after ≡ sets samples-before 0 samples
