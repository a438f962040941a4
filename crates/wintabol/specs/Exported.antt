-- What an exported function gives back: the definitions' answer as numbers, and what its buffers hold at the end.
use Rattle.std.specs.Prelude.{ℕ, eqb, length, List, ◌≡◌, Result, Ok, Err}
use Rattle.allele_subsetting_pl.specs.UnusedAlts.{Outputs, list_of}
use Rattle.allele_subsetting_pl.specs.declared.UnusedAlts.{UnusedAlts}
use Rattle.answers.specs.Answered.{row_of}
use Rattle.answers.specs.declared.Refusal.{Refusal}
use Rattle.definitions.specs.AlleleSubset.{UnusedAltSubset}
use Rattle.definitions.specs.Answers.{Answer, answer_of, output_after, scratch_after}
use Rattle.definitions.specs.Checked.{Checked, accepted, is_accepted, refused}
use Rattle.definitions.specs.CombinedList.{Texts, combined_list}
use Rattle.definitions.specs.LookUp.{LookedUp, numbers_written}
use Rattle.definitions.specs.Looks.{looks_of}
use Rattle.position_lookup.specs.declared.LookedUp as lookup

abbrev pub answer : ℕ → ℕ → Answer
answer number written = record { number = number; written = written }

-- the row that refuses the call, else 0, and how many values are written
abbrev pub outcome_numbers : Result ℕ Refusal → Answer
outcome_numbers (Ok n) = answer 0 n
outcome_numbers (Err refusal) = answer (row_of refusal) 0

-- the two numbers are the answer of these values, or of the row that refuses them, and so is what the output holds at the end; the
-- first number is 0 exactly if the call is accepted
pub record Exported {A : Type 0} (values : Checked (List A)) (out out' : List A) (number written : ℕ) : Type 0 where
  pub numbers : answer number written ≡ answer_of values
  pub accepts : eqb number 0 ≡ is_accepted values
  pub output : out' ≡ output_after values out

-- the same for the combined list of these texts; scratch is zero at the end
pub record ExportedList (texts : Texts) (scratch scratch' out out' : List ℕ) (number written : ℕ) : Type 0 where
  pub exported : Exported (combined_list texts (length scratch) (length out)) out out' number written
  pub cleared : scratch' ≡ scratch_after scratch

-- ---- a figure

-- the row that refuses the call, else 0, and the figure, 0 where the call is refused
pub record FigureAnswer : Type 0 where
  pub number : ℕ
  pub figure : ℕ

abbrev pub answer_figure : ℕ → ℕ → FigureAnswer
answer_figure number figure = record { number = number; figure = figure }

unfoldable pub answer_figure_of : Checked ℕ → FigureAnswer
answer_figure_of (refused row) = answer_figure row 0
answer_figure_of (accepted figure) = answer_figure 0 figure

-- the two numbers are the looks of a contig, or the row that refuses them; the first number is 0 exactly if the call is accepted; scratch is
-- zero at the end
pub record ExportedLooks (texts : Texts) (contig scratch scratch' : List ℕ) (number figure : ℕ) : Type 0 where
  pub numbers : answer_figure number figure ≡ answer_figure_of (looks_of texts (length scratch) contig)
  pub accepts : eqb number 0 ≡ is_accepted (looks_of texts (length scratch) contig)
  pub cleared : scratch' ≡ scratch_after scratch

-- ---- pairs looked up

-- the row that refuses the call, else 0, how many pairs there are and how many record groups were read, 0 where the call is refused
pub record LookupNumbers : Type 0 where
  pub number : ℕ
  pub pairs : ℕ
  pub groups : ℕ

abbrev pub answer_lookup : ℕ → ℕ → ℕ → LookupNumbers
answer_lookup number pairs groups = record { number = number; pairs = pairs; groups = groups }

abbrev pub lookup_numbers : Result lookup.LookedUp Refusal → LookupNumbers
lookup_numbers (Ok l) = answer_lookup 0 l.pairs l.groups
lookup_numbers (Err refusal) = answer_lookup (row_of refusal) 0 0

unfoldable pub answer_lookup_of : Checked LookedUp → LookupNumbers
answer_lookup_of (refused row) = answer_lookup row 0 0
answer_lookup_of (accepted l) = answer_lookup 0 (length l.found) l.groups

-- the three numbers are those of what was looked up, or the row that refuses it, and so is what the output holds at the end; the first number
-- is 0 exactly if the call is accepted
pub record ExportedLookUp (looked : Checked LookedUp) (out out' : List ℕ) (number pairs groups : ℕ) : Type 0 where
  pub numbers : answer_lookup number pairs groups ≡ answer_lookup_of looked
  pub accepts : eqb number 0 ≡ is_accepted looked
  pub output : out' ≡ output_after (numbers_written looked) out

-- ---- three outputs

-- the row that refuses the call, else 0, and how many values are written to each output
pub record UnusedAltAnswer : Type 0 where
  pub number : ℕ
  pub alts : ℕ
  pub likelihoods : ℕ
  pub ad : ℕ

abbrev pub answer_alts : ℕ → ℕ → ℕ → ℕ → UnusedAltAnswer
answer_alts number alts likelihoods ad = record { number = number; alts = alts; likelihoods = likelihoods; ad = ad }

abbrev pub outcome_alts : Result UnusedAlts Refusal → UnusedAltAnswer
outcome_alts (Ok written) = answer_alts 0 written.alts written.likelihoods written.ad
outcome_alts (Err refusal) = answer_alts (row_of refusal) 0 0 0

unfoldable pub answer_alts_of : Checked UnusedAltSubset → UnusedAltAnswer
answer_alts_of (refused row) = answer_alts row 0 0 0
answer_alts_of (accepted s) = answer_alts 0 (length s.alts) (length s.likelihoods) (length s.ad)

-- the four numbers are the answer of this subset, or of the row that refuses it, and so is what each output holds at the end; the
-- first number is 0 exactly if the call is accepted
pub record ExportedAlts (subset : Checked UnusedAltSubset) (before after : Outputs) (number alts likelihoods ad : ℕ) : Type 0 where
  pub numbers : answer_alts number alts likelihoods ad ≡ answer_alts_of subset
  pub accepts : eqb number 0 ≡ is_accepted subset
  pub alts_output : after.alts ≡ output_after (list_of (λ s. s.alts) subset) before.alts
  pub likelihoods_output : after.likelihoods ≡ output_after (list_of (λ s. s.likelihoods) subset) before.likelihoods
  pub ad_output : after.ad ≡ output_after (list_of (λ s. s.ad) subset) before.ad
