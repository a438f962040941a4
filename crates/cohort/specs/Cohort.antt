-- What reading cohort.kv into tables finds.
use Rattle.std.specs.Prelude as std
use Rattle.std.specs.Prelude.{◌*◌, ◌+◌, ◌/◌, ◌<◌, ◌≤◌, suc, ℕ, leb, ltb, drop, length, take, unwrap_or, Bool, cond, List, [], ◌∷◌, map, ◌⊎◌, ◌≡◌}
use Rattle.std.proofs.Math.Option.{get_or, some}
use Rattle.answers.specs.Answered as answered
use Rattle.answers.specs.declared.LoadError.{LoadError}
use Rattle.answers.specs.declared.LoadError.TheVariants as load
use Rattle.definitions.specs.Answers.{scratch_after}
use Rattle.definitions.specs.Bytes.{same_bytes}
use Rattle.definitions.specs.Checked.{Checked, ◌>>=◌, ◌>>◌, accepted, read_each, refused, require}
use Rattle.definitions.specs.Cohort.{Cohort, Site, cohort_of, samples_of, site_lines, site_of}
use Rattle.definitions.specs.CombinedList.{fits}
use Rattle.definitions.specs.Limits.{max_samples, max_sites}
use Rattle.definitions.specs.Lines.{lines_of}
use Rattle.definitions.specs.Lists.{groups_of, index_where, numbers_from}
use Rattle.site_groups.specs.declared.SiteAlleles.{SiteAlleles}
use Rattle.site_groups.specs.declared.SitePlace.{SitePlace}
use Rattle.site_groups.specs.declared.SiteValues.{SiteValues}
use Rattle.tables.specs.Tables.{SiteRows, column, names_in, part_at, row_length, site_at}
use Rattle.cohort.specs.declared.CohortSize.{CohortSize}

-- ---- answers

-- what reading a text into tables gives: a value; or the row that refuses the text; or a table is too short
pub data Loaded (A : Type 0) : Type 0 where
  loaded : A → Loaded A
  faulty : ℕ → Loaded A
  no_room : Loaded A

abbrev pub loaded_of : {A : Type 0} → std.Result A LoadError → Loaded A
loaded_of (std.Ok a) = loaded a
loaded_of (std.Err (load.Refused r)) = faulty (answered.row_of r)
loaded_of (std.Err load.NoRoom) = no_room

-- ---- a row

-- GQ, DP or MIN_DP in a row: a missing one is past every number of a text
abbrev pub code_of : std.Option ℕ → ℕ
code_of n = unwrap_or n 4294967295

-- the numbers of a site's row, in the order of the table's columns; DP and MIN_DP share one, AD and PL stand in the text
abbrev pub row_of : SitePlace → ℕ → SiteAlleles → SiteValues → Bool → List ℕ
row_of p contig a v block =
    p.sample.0 ∷ contig ∷ p.start.0 ∷ p.end.0 ∷ cond block 1 0 ∷ code_of v.gq ∷ (code_of v.dp + code_of v.mindp * 4294967296)
    ∷ p.contig.at ∷ p.contig.end ∷ a.refs.at ∷ a.refs.end ∷ a.alts.at ∷ a.alts.end
    ∷ 0 ∷ v.ad.at ∷ v.ad.end ∷ 0 ∷ v.pl.at ∷ v.pl.end ∷ 0 ∷ 0 ∷ 0 ∷ []

-- ---- contigs

-- the names of the contigs of the first `count` sites
unfoldable pub contig_names : List ℕ → List ℕ → ℕ → List (List ℕ)
contig_names s rows count = map (part_at 7 8 s rows) (numbers_from 0 count)

-- the number of the first site on a contig, or the number of the sites if there is none
unfoldable pub first_on : List ℕ → List ℕ → ℕ → List ℕ → ℕ
first_on s rows count contig = get_or (index_where (same_bytes contig) (contig_names s rows count)) count

-- the rows of the first `count` sites have the numbers of their contigs' first sites
abbrev pub ContigsNumbered : List ℕ → List ℕ → ℕ → Type 0
ContigsNumbered s rows count = (site : ℕ) → site < count
    → index_where (same_bytes (part_at 7 8 s rows site)) (contig_names s rows count) ≡ some (column 1 rows site)

-- ---- all sites

-- how many sites a table of so many numbers has rows for
abbrev pub rows_in : ℕ → ℕ
rows_in numbers = numbers / row_length

-- the sites of the first `count` rows
unfoldable pub sites_in : List ℕ → List ℕ → ℕ → List Site
sites_in s rows count = map (site_at s rows) (numbers_from 0 count)

-- what the site groups from an offset on read as, with these names
unfoldable pub sites_from : List (List ℕ) → List ℕ → ℕ → Checked (List Site)
sites_from names s at = read_each (site_of names) [] (groups_of site_lines (lines_of (drop at s)))

-- the same of so many groups, the first
unfoldable pub first_sites : ℕ → List (List ℕ) → List ℕ → ℕ → Checked (List Site)
first_sites groups names s at = read_each (site_of names) [] (take groups (groups_of site_lines (lines_of (drop at s))))

-- the answer where there are rows for `room` sites, by what the first groups, one more than there are rows for, read as
unfoldable pub sites_answer : ℕ → Checked (List Site) → Loaded ℕ
sites_answer room (refused row) = faulty row
sites_answer room (accepted read) = cond (leb (length read) room) (loaded (length read)) no_room

-- the answer, whatever the names of so many samples, from a table of so many numbers
abbrev pub SitesAnswered : ℕ → List ℕ → ℕ → ℕ → std.Result ℕ LoadError → Type 0
SitesAnswered samples s at numbers r = (names : List (List ℕ)) → samples ≡ length names
    → loaded_of r ≡ sites_answer (rows_in numbers) (first_sites (suc (rows_in numbers)) names s at)

-- the table has the sites, whatever the names of so many samples, there is room for their rows, and behind them it is as it was
pub record SitesTo (samples : ℕ) (s : List ℕ) (at : ℕ) (rows₀ rows : List ℕ) (count : ℕ) : Type 0 where
  pub value : (names : List (List ℕ)) → samples ≡ length names → sites_from names s at ≡ accepted (sites_in s rows count)
  pub table : SiteRows s rows (sites_in s rows count)
  pub few : count ≤ max_sites
  pub room : count * row_length ≤ length rows₀
  pub rest : drop (count * row_length) rows ≡ drop (count * row_length) rows₀

unfoldable pub SitesRead : ℕ → List ℕ → ℕ → List ℕ → List ℕ → std.Result ℕ LoadError → Type 0
SitesRead samples s at rows₀ rows (std.Ok count) = SitesTo samples s at rows₀ rows count
SitesRead samples s at rows₀ rows (std.Err (load.Refused r)) =
    (names : List (List ℕ)) → samples ≡ length names → sites_from names s at ≡ refused (answered.row_of r)
SitesRead samples s at rows₀ rows (std.Err load.NoRoom) = length rows₀ < max_sites * row_length

-- ---- the cohort

-- a text that is too long is refused with 2 before all
unfoldable pub fitting_cohort : List ℕ → Checked Cohort
fitting_cohort s = require 2 (fits s) >> cohort_of s

-- the same of the header and so many site groups, the first
unfoldable pub cohort_front : ℕ → List ℕ → Checked Cohort
cohort_front groups s = do
  require 2 (fits s)
  names ← samples_of (lines_of s)
  sites ← read_each (site_of names) [] (take groups (groups_of site_lines (drop (suc (length names)) (lines_of s))))
  accepted (record { names = names; sites = sites })

-- the answer where there are rows for `room` sites, by what the header and the first site groups, one more than there are rows for, read as
unfoldable pub front_answer : ℕ → Checked Cohort → Loaded CohortSize
front_answer room (refused row) = faulty row
front_answer room (accepted c) =
    cond (leb (length c.sites) room) (loaded (record { samples = length c.names; sites = length c.sites })) no_room

-- the answer for a text, from tables of so many numbers for names and for rows: no room if the names' table has fewer than 128, or for the
-- first site that reads and has no row; a row refuses the text if the header or a site group up to that site is faulty
unfoldable pub cohort_answer : ℕ → ℕ → List ℕ → Loaded CohortSize
cohort_answer names rows s =
    cond (ltb names (2 * max_samples)) no_room (front_answer (rows_in rows) (cohort_front (suc (rows_in rows)) s))

-- there is room for the names and for the rows of so many sites
pub record Room (names rows : List ℕ) (count : ℕ) : Type 0 where
  pub for_names : 2 * max_samples ≤ length names
  pub for_rows : count * row_length ≤ length rows

-- the tables have the cohort, and behind it they are as they were
pub record CohortTo (s names₀ names rows₀ rows : List ℕ) (samples count : ℕ) : Type 0 where
  pub room : Room names₀ rows₀ count
  pub value : fitting_cohort s ≡ accepted (record { names = names_in s names samples; sites = sites_in s rows count })
  pub table : SiteRows s rows (sites_in s rows count)
  pub some_sample : 0 < samples
  pub few_samples : samples ≤ max_samples
  pub few_sites : count ≤ max_sites
  pub names_rest : drop (2 * samples) names ≡ drop (2 * samples) names₀
  pub rows_rest : drop (count * row_length) rows ≡ drop (count * row_length) rows₀

-- the row refuses the text, and both tables are zero
pub record CohortRefused (s names₀ names rows₀ rows : List ℕ) (row : ℕ) : Type 0 where
  pub room : 2 * max_samples ≤ length names₀
  pub value : fitting_cohort s ≡ refused row
  pub names_cleared : names ≡ scratch_after names₀
  pub rows_cleared : rows ≡ scratch_after rows₀

-- a table is too short, and both are zero
pub record CohortUnread (names₀ names rows₀ rows : List ℕ) : Type 0 where
  pub no_room : (length names₀ < 2 * max_samples) ⊎ (length rows₀ < max_sites * row_length)
  pub names_cleared : names ≡ scratch_after names₀
  pub rows_cleared : rows ≡ scratch_after rows₀

unfoldable pub CohortAt : List ℕ → List ℕ → List ℕ → List ℕ → List ℕ → std.Result CohortSize LoadError → Type 0
CohortAt s names₀ names rows₀ rows (std.Ok size) = CohortTo s names₀ names rows₀ rows size.samples size.sites
CohortAt s names₀ names rows₀ rows (std.Err (load.Refused r)) = CohortRefused s names₀ names rows₀ rows (answered.row_of r)
CohortAt s names₀ names rows₀ rows (std.Err load.NoRoom) = CohortUnread names₀ names rows₀ rows

-- the same where there is room for the names, with the tables left open where the cohort is not read
unfoldable pub CohortFitting : List ℕ → List ℕ → List ℕ → List ℕ → List ℕ → std.Result CohortSize LoadError → Type 0
CohortFitting s names₀ names rows₀ rows (std.Ok size) = CohortTo s names₀ names rows₀ rows size.samples size.sites
CohortFitting s names₀ names rows₀ rows (std.Err (load.Refused r)) = fitting_cohort s ≡ refused (answered.row_of r)
CohortFitting s names₀ names rows₀ rows (std.Err load.NoRoom) = length rows₀ < max_sites * row_length
