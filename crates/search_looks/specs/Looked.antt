-- The figure that a call answers, and what its steps are lent.
use Rattle.std.specs.Prelude.{ℕ, length, Bool, List, ◌≡◌, Result}
use Rattle.answers.specs.Answered.{checked_of}
use Rattle.answers.specs.declared.Refusal.{Refusal}
use Rattle.combined_list.specs.Contigs.{Grouped, IsFirst}
use Rattle.combined_list.specs.WrittenList.{CallLoaded, ListReady}
use Rattle.definitions.specs.Answers.{scratch_after}
use Rattle.definitions.specs.Checked.{Checked, ◌>>◌, accepted}
use Rattle.definitions.specs.CombinedList.{Input, Texts, combined_records}
use Rattle.definitions.specs.Looks.{contig_looks, looks_of}

-- ---- the answer

-- what a call promises
pub record LooksAnswered (texts : Texts) (contig scratch scratch' : List ℕ) (r : Result ℕ Refusal) : Type 0 where
  pub answer : checked_of r ≡ looks_of texts (length scratch) contig
  pub cleared : scratch' ≡ scratch_after scratch

-- the figure of an input with so many scratch places
abbrev pub looks_with : Input → ℕ → List ℕ → Checked ℕ
looks_with x places contig = combined_records x places >> accepted (contig_looks x contig)

-- ---- what is lent

-- tables that hold an input, with its sites grouped by sample, and the first site of a contig
pub record FirstReady (s rows : List ℕ) (samples : ℕ) (clipped : Bool) (clip : List ℕ) (first : ℕ) (order runs : List ℕ) : Type 0 where
  pub referenced : Bool
  pub reference : List ℕ
  pub tables : Grouped s rows samples clipped clip referenced reference order runs
  pub is_first : IsFirst tables first

-- the same without a contig, with the number of the sites
pub record SitesReady (s rows : List ℕ) (samples sites : ℕ) (clipped : Bool) (clip order runs : List ℕ) : Type 0 where
  pub referenced : Bool
  pub reference : List ℕ
  pub tables : Grouped s rows samples clipped clip referenced reference order runs
  pub all_sites : sites ≡ length tables.loaded.input.cohort.sites

-- the same with the contigs by their first sites, in byte order of name
pub record ContigsReady (s rows : List ℕ) (samples sites : ℕ) (clipped : Bool) (clip : List ℕ) (referenced : Bool)
    (reference contigs order runs : List ℕ) : Type 0 where
  pub names : List ℕ
  pub list : ListReady s names rows samples clipped clip referenced reference contigs order runs
  pub all_sites : sites ≡ length list.tables.loaded.input.cohort.sites

-- tables that hold the cohort, and clip and reference in order
pub record TablesReady (s rows : List ℕ) (samples sites : ℕ) (clipped : Bool) (clip : List ℕ) (referenced : Bool) (reference : List ℕ) : Type 0 where
  pub names : List ℕ
  pub call : CallLoaded s names rows samples sites clipped clip referenced reference
