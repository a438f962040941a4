-- What a call answers, and what its buffers hold at the end.
use Rattle.std.specs.Prelude.{◌*◌, ◌<◌, ◌≤◌, ℕ, leb, length, Bool, ◌&&◌, false, true, List, ◌⊎◌, ◌≡◌, Result, Ok, Err}
use Rattle.std.proofs.Math.Option.{Option}
use Rattle.answers.specs.Answered.{Answered, checked_of, row_of}
use Rattle.answers.specs.declared.LoadError.{LoadError}
use Rattle.answers.specs.declared.LoadError.TheVariants.{NoRoom, Refused}
use Rattle.answers.specs.declared.Refusal.{Refusal}
use Rattle.cohort.specs.Cohort.{sites_in}
use Rattle.cohort.specs.declared.CohortSize.{CohortSize}
use Rattle.definitions.specs.Answers.{output_after, scratch_after, written_of}
use Rattle.definitions.specs.Checked.{accepted, refused}
use Rattle.definitions.specs.Cohort.{cohort_of}
use Rattle.definitions.specs.CombinedList.{Texts, combined_list, fits, input_of}
use Rattle.definitions.specs.Limits.{max_samples, max_sites}
use Rattle.definitions.specs.Lists.{missing_or, only_if}
use Rattle.combined_list.specs.WrittenList.{CallLoaded, ListsFit}
use Rattle.tables.specs.Tables.{SiteRows, counts_at, names_in, row_length, table_length}

-- ---- the answer

-- the texts of a call
abbrev pub texts_of : List ℕ → Bool → List ℕ → Bool → List ℕ → Texts
texts_of cohort clipped clip referenced reference =
    record { cohort = cohort; clip = only_if clipped clip; reference = only_if referenced reference }

-- the answer for these texts
pub record TextsAnswered (texts : Texts) (scratch : ℕ) (out out' : List ℕ) (r : Result ℕ Refusal) : Type 0 where
  pub answered : Answered (combined_list texts scratch (length out)) out out' r

-- what a call promises
pub record Combined (texts : Texts) (scratch scratch' out out' : List ℕ) (r : Result ℕ Refusal) : Type 0 where
  pub answer : checked_of r ≡ written_of (combined_list texts (length scratch) (length out))
  pub output : out' ≡ output_after (combined_list texts (length scratch) (length out)) out
  pub cleared : scratch' ≡ scratch_after scratch

-- ---- texts

-- a text that may be left out has at most so many bytes
unfoldable pub at_most : ℕ → Option (List ℕ) → Bool
at_most most t = missing_or (λ (s : List ℕ). leb (length s) most) t

-- no text is too long
abbrev pub texts_short : List ℕ → Bool → List ℕ → Bool → List ℕ → Bool
texts_short cohort clipped clip referenced reference =
    fits cohort && missing_or fits (only_if clipped clip) && missing_or fits (only_if referenced reference)

abbrev pub TextsFit : List ℕ → Bool → List ℕ → Bool → List ℕ → Type 0
TextsFit cohort clipped clip referenced reference = texts_short cohort clipped clip referenced reference ≡ true

-- what a text that may be left out changes in the table: nothing, if it is
pub record IfGiven (given : Bool) (Rows : Type 0) (rows after : List ℕ) : Type 0 where
  pub there : given ≡ true → Rows
  pub left_out : given ≡ false → after ≡ rows

-- a table has room for the rows of segments, or ends before it could say how many they are
abbrev pub TableWhole : List ℕ → Type 0
TableWhole rows = (table_length ≤ length rows) ⊎ (length rows ≤ counts_at)

-- tables that texts are read into
pub record TablesWhole (names rows : List ℕ) : Type 0 where
  pub for_names : 2 * max_samples ≤ length names
  pub whole : TableWhole rows

-- tables and lists of a call: sites that have rows fit the lists
pub record TablesFit (names rows order firsts chosen : List ℕ) : Type 0 where
  pub tables : TablesWhole names rows
  pub for_sites : (sites : ℕ) → sites ≤ max_sites → sites * row_length ≤ length rows → ListsFit sites order firsts chosen

-- what tables of so many places gave: the answer, or they have no room for the cohort, and then nothing was written
unfoldable pub TriedWith : Texts → ℕ → List ℕ → List ℕ → ℕ → Result ℕ LoadError → Type 0
TriedWith texts scratch out out' places (Ok written) = TextsAnswered texts scratch out out' (Ok written)
TriedWith texts scratch out out' places (Err (Refused refusal)) = TextsAnswered texts scratch out out' (Err refusal)
TriedWith texts scratch out out' places (Err NoRoom) = (out' ≡ out) × (places < max_sites * row_length)

-- no text is too long, and the tables hold the cohort
pub record CohortHeld (s names rows : List ℕ) (samples sites : ℕ) (clipped : Bool) (clip : List ℕ) (referenced : Bool) (reference : List ℕ) : Type 0 where
  pub all_fit : TextsFit s clipped clip referenced reference
  pub value : cohort_of s ≡ accepted (record { names = names_in s names samples; sites = sites_in s rows sites })
  pub table : SiteRows s rows (sites_in s rows sites)
  pub few : samples ≤ max_samples
  pub few_sites : sites ≤ max_sites
  pub for_rows : sites * row_length ≤ length rows
  pub in_table : 2 * samples ≤ length names
  pub whole : TableWhole rows

-- ---- texts that were read

module _ (s : List ℕ) (clipped : Bool) (clip : List ℕ) (referenced : Bool) (reference : List ℕ) where
  -- the tables hold the input of the texts, and have a row for each of its sites
  pub record TextsLoaded (names rows : List ℕ) (places samples sites : ℕ) : Type 0 where
    pub call : CallLoaded s names rows samples sites clipped clip referenced reference
    pub read : input_of (texts_of s clipped clip referenced reference) ≡ accepted call.loaded.input
    pub few_sites : sites ≤ max_sites
    pub for_rows : sites * row_length ≤ places

  -- what reading the texts into tables gave, of which the second had so many places
  unfoldable pub ReadTo : List ℕ → List ℕ → ℕ → Result CohortSize LoadError → Type 0
  ReadTo names rows places (Ok size) = TextsLoaded names rows places size.samples size.sites
  ReadTo names rows places (Err (Refused refusal)) = input_of (texts_of s clipped clip referenced reference) ≡ refused (row_of refusal)
  ReadTo names rows places (Err NoRoom) = places < max_sites * row_length
