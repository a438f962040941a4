-- An outcome of which an entry's promise holds, as numbers.
-- Assumes nothing.
use Prim.Native.Nat.{◌≤◌, ℕ}
use borrow.Author.Tests.{ne_eqb}
use lib.Dec.{eqb}
use lib.ListN.{length}
use mathlib.Core.List.{List}
use mathlib.Core.Path.{◌∙◌, ◌≡◌, ap, refl, sym}
use native.Mathlib.Omega.{arith}
use Rattle.allele_subsetting_pl.specs.UnusedAlts as unused
use Rattle.allele_subsetting_pl.specs.UnusedAlts.{Outputs, UnusedAltsAnswered, likelihood_count_of}
use Rattle.allele_subsetting_pl.specs.declared.UnusedAlts.{UnusedAlts}
use Rattle.answers.specs.Answered.{Answered, checked_of, row_of}
use Rattle.answers.specs.declared.Refusal.{Refusal}
use Rattle.combine_gvcfs.specs.Combined.{Combined}
use Rattle.definitions.specs.AlleleSubset.{UnusedAltSubset}
use Rattle.definitions.specs.Answers.{Answer, answer_of, written_of}
use Rattle.definitions.specs.Checked.{Checked, accepted, is_accepted, refused}
use Rattle.definitions.specs.CombinedList.{Texts}
use Rattle.laws.proofs.Checked.{accepted_same, not_refused}
use Rattle.definitions.specs.LookUp.{LookedUp, look_up_within}
use Rattle.definitions.specs.Looks.{looks_of}
use Rattle.laws.proofs.Looks.{looks_numbered}
use Rattle.laws.proofs.RefusalNumbers.{ByRow, Numbered, ill, list_numbered, look_up_numbered, well}
use Rattle.likelihoods.specs.Written.{count_of}
use Rattle.position_lookup.specs.Found.{Gives, counts_of}
use Rattle.position_lookup.specs.declared.LookedUp as lookup
use Rattle.search_looks.specs.Looked.{LooksAnswered}
use Rattle.std.specs.Prelude.{Err, Ok, Result}
use Rattle.wintabol.specs.Exported.{Exported, ExportedAlts, ExportedList, ExportedLookUp, ExportedLooks, FigureAnswer, LookupNumbers, UnusedAltAnswer, answer, answer_alts, answer_alts_of, answer_figure, answer_figure_of, answer_lookup, answer_lookup_of, lookup_numbers, outcome_alts, outcome_numbers}

refused_same : {A : Type 0} {m n : ℕ} → ◌≡◌ {A = Checked A} (refused m) (refused n) → m ≡ n
refused_same e = cc

-- ---- one output

module _ {A : Type 0} where
  numbers_of_lem : (r : Result ℕ Refusal) (values : Checked (List A)) → checked_of r ≡ written_of values → outcome_numbers r ≡ answer_of values
  unfolding written_of answer_of
  numbers_of_lem (Ok n) (accepted list) e = rw (accepted_same e)
  numbers_of_lem (Ok n) (refused row) e = not_refused (sym e)
  numbers_of_lem (Err r) (accepted list) e = not_refused e
  numbers_of_lem (Err r) (refused m) e = rw (refused_same e)

  number_accepts : {values : Checked (List A)} {number written : ℕ} → ByRow values → answer number written ≡ answer_of values
      → eqb number 0 ≡ is_accepted values
  unfolding answer_of is_accepted
  number_accepts (well list) e = ap (λ (a : Answer). eqb a.number 0) e
  number_accepts (ill row h) e = ap (λ (a : Answer). eqb a.number 0) e ∙ ne_eqb row 0 (λ z. omega arith)

  pub exported : {values : Checked (List A)} {out out' : List A} {r : Result ℕ Refusal} {number written : ℕ} → ByRow values
      → Answered values out out' r → outcome_numbers r ≡ answer number written → Exported values out out' number written
  exported {values = values} {r = r} n a e =
      let numbers = sym e ∙ numbers_of_lem r values a.answer in
      record { numbers = numbers; accepts = number_accepts n numbers; output = a.output }

-- as many as the outcome says
pub written_count : {number written : ℕ} (r : Result ℕ Refusal) → outcome_numbers r ≡ answer number written → count_of r ≡ written
written_count (Ok n) e = ap (λ (a : Answer). a.written) e
written_count (Err r) e = ap (λ (a : Answer). a.written) e

pub exported_list : {texts : Texts} {scratch scratch' out out' : List ℕ} {r : Result ℕ Refusal} {number written : ℕ}
    → Combined texts scratch scratch' out out' r → outcome_numbers r ≡ answer number written
    → ExportedList texts scratch scratch' out out' number written
exported_list {texts = texts} {scratch = scratch} {out = out} {r = r} c e =
    record {
      exported = exported {r = r} (list_numbered texts (length scratch) (length out)) (record { answer = c.answer; output = c.output }) e;
      cleared = c.cleared;
    }

-- ---- a figure

-- the same two numbers, of which the second is a figure
looks_numbers : (r : Result ℕ Refusal) {c : Checked ℕ} {number figure : ℕ} → checked_of r ≡ c → outcome_numbers r ≡ answer number figure
    → answer_figure number figure ≡ answer_figure_of c
unfolding answer_figure_of
looks_numbers (Ok n) e numbers = rw (← e) (ap (λ (a : Answer). answer_figure a.number a.written) (sym numbers))
looks_numbers (Err r) e numbers = rw (← e) (ap (λ (a : Answer). answer_figure a.number a.written) (sym numbers))

looks_accepts : {c : Checked ℕ} {number figure : ℕ} → ByRow c → answer_figure number figure ≡ answer_figure_of c → eqb number 0 ≡ is_accepted c
unfolding answer_figure_of is_accepted
looks_accepts (well n) e = ap (λ (a : FigureAnswer). eqb a.number 0) e
looks_accepts (ill row h) e = ap (λ (a : FigureAnswer). eqb a.number 0) e ∙ ne_eqb row 0 (λ z. omega arith)

pub exported_looks : {texts : Texts} {contig scratch scratch' : List ℕ} {r : Result ℕ Refusal} {number figure : ℕ}
    → LooksAnswered texts contig scratch scratch' r → outcome_numbers r ≡ answer number figure
    → ExportedLooks texts contig scratch scratch' number figure
exported_looks {texts = texts} {contig = contig} {scratch = scratch} {r = r} a e =
    let numbers = looks_numbers r a.answer e in
    record { numbers = numbers; accepts = looks_accepts (looks_numbered texts (length scratch) contig) numbers; cleared = a.cleared }

-- ---- pairs looked up

lookup_numbers_lem : (r : Result lookup.LookedUp Refusal) (m : Checked LookedUp) → checked_of r ≡ counts_of m → lookup_numbers r ≡ answer_lookup_of m
unfolding counts_of answer_lookup_of
lookup_numbers_lem (Ok n) (accepted l) e = ap (λ (c : lookup.LookedUp). answer_lookup 0 c.pairs c.groups) (accepted_same e)
lookup_numbers_lem (Ok n) (refused row) e = not_refused (sym e)
lookup_numbers_lem (Err r) (accepted l) e = not_refused e
lookup_numbers_lem (Err r) (refused m) e = rw (refused_same e)

lookup_accepts : {m : Checked LookedUp} {number pairs groups : ℕ} → Numbered 1 18 m → answer_lookup number pairs groups ≡ answer_lookup_of m
    → eqb number 0 ≡ is_accepted m
unfolding answer_lookup_of is_accepted
lookup_accepts (well l) e = ap (λ (a : LookupNumbers). eqb a.number 0) e
lookup_accepts (ill row h) e = ap (λ (a : LookupNumbers). eqb a.number 0) e ∙ ne_eqb row 0 (λ z. omega arith)

pub exported_look_up : (s asked out out' : List ℕ) (r : Result lookup.LookedUp Refusal) (number pairs groups : ℕ)
    → Gives (look_up_within s asked (length out)) out out' r → lookup_numbers r ≡ answer_lookup number pairs groups
    → ExportedLookUp (look_up_within s asked (length out)) out out' number pairs groups
exported_look_up s asked out out' r number pairs groups g e =
    let numbers = sym e ∙ lookup_numbers_lem r (look_up_within s asked (length out)) g.answer in
    record { numbers = numbers; accepts = lookup_accepts (look_up_numbered s asked (length out)) numbers; output = g.written }

-- ---- three outputs

alts_numbers : (r : Result UnusedAlts Refusal) (subset : Checked UnusedAltSubset) → checked_of r ≡ unused.written_of subset
    → outcome_alts r ≡ answer_alts_of subset
unfolding unused.written_of answer_alts_of
alts_numbers (Ok n) (accepted s) e = rw (ap (λ l. l.alts) (accepted_same e), ap (λ l. l.likelihoods) (accepted_same e), ap (λ l. l.ad) (accepted_same e))
alts_numbers (Ok n) (refused row) e = not_refused (sym e)
alts_numbers (Err r) (accepted s) e = not_refused e
alts_numbers (Err r) (refused m) e = rw (refused_same e)

alts_accepts : {subset : Checked UnusedAltSubset} {number a b d : ℕ} → ByRow subset → answer_alts number a b d ≡ answer_alts_of subset
    → eqb number 0 ≡ is_accepted subset
unfolding answer_alts_of is_accepted
alts_accepts (well s) e = ap (λ (a : UnusedAltAnswer). eqb a.number 0) e
alts_accepts (ill row h) e = ap (λ (a : UnusedAltAnswer). eqb a.number 0) e ∙ ne_eqb row 0 (λ z. omega arith)

pub exported_alts : {subset : Checked UnusedAltSubset} {before after : Outputs} {r : Result UnusedAlts Refusal} {number a b d : ℕ} → ByRow subset
    → UnusedAltsAnswered subset before after r → outcome_alts r ≡ answer_alts number a b d → ExportedAlts subset before after number a b d
exported_alts {subset = subset} {r = r} n h e =
    let numbers = sym e ∙ alts_numbers r subset h.answer in
    record {
      numbers = numbers;
      accepts = alts_accepts n numbers;
      alts_output = h.alts;
      likelihoods_output = h.likelihoods;
      ad_output = h.ad;
    }

-- as many likelihoods as the outcome says
pub likelihood_count : {number a b d : ℕ} (r : Result UnusedAlts Refusal) → outcome_alts r ≡ answer_alts number a b d → likelihood_count_of r ≡ b
likelihood_count (Ok n) e = ap (λ (a : UnusedAltAnswer). a.likelihoods) e
likelihood_count (Err r) e = ap (λ (a : UnusedAltAnswer). a.likelihoods) e
