-- The figure of an input, and of the texts that it is read from.
use Prim.Native.Nat.{◌≤◌, ℕ}
use borrow.Author.Tests.{eqb-true, ltb-true}
use lib.Dec.{eqb, ltb}
use lib.ListN.{length, take}
use mathlib.Core.Bool.{Bool, ◌&&◌, false, true}
use mathlib.Core.List.{List, []}
use mathlib.Core.Path.{◌∙◌, ◌≡◌, ap, refl, sym}
use native.Mathlib.Omega.{arith}
use Rattle.answers.specs.Answered.{checked_of, row_of}
use Rattle.answers.specs.declared.Refusal.{Refusal}
use Rattle.combine_gvcfs.specs.Combined.{TextsLoaded, texts_of}
use Rattle.combined_list.proofs.ListReady.{list_ready}
use Rattle.combined_list.proofs.WrittenList.{WalkSays, measuring}
use Rattle.combined_list.specs.WrittenList.{CallLoaded}
use Rattle.contig_walk.specs.Walk.{RecordsLaid, RecordsRefused, RecordsWalked}
use Rattle.combined_list.specs.Contigs.{all_records}
use Rattle.contig_walk.specs.declared.ListEnd.{ListEnd}
use Rattle.contigs.specs.Contigs.{ContigOrder}
use Rattle.covering_sites.specs.Covering.{sample_keys}
use Rattle.covering_sites.specs.Runs.{Runs}
use Rattle.definitions.specs.Answers.{scratch_after}
use Rattle.definitions.specs.Checked.{Checked, ◌>>◌, accepted, refused}
use Rattle.definitions.specs.CombinedList.{Texts, combined_records, input_of, list_of}
use Rattle.definitions.specs.Looks.{contig_looks, looks_of}
use Rattle.definitions.specs.Records.{Record}
use Rattle.laws.proofs.Checked.{not_refused, refused_back, then, then_refused}
use Rattle.laws.proofs.ScratchPlaces.{list_without_place, records_placed}
use Rattle.laws.proofs.Tests.{both_of}
use Rattle.search_looks.specs.Looked.{ContigsReady, LooksAnswered, SitesReady, TablesReady, looks_with}
use Rattle.std.specs.Prelude.{Err, Ok, Result}
use Rattle.tables.proofs.Cleared.{scratch_same}

-- ---- all contigs are walked over

module _ {s rows : List ℕ} {samples sites : ℕ} {clipped : Bool} {clip : List ℕ} {referenced : Bool} {reference contigs order runs : List ℕ}
    (ready : ContigsReady s rows samples sites clipped clip referenced reference contigs order runs) where
  pub sites_ready : SitesReady s rows samples sites clipped clip order runs
  sites_ready = record { referenced = referenced; reference = reference; tables = ready.list.tables; all_sites = ready.all_sites }

  module _ (contig part : List ℕ) where
    pub walk_refused : (r : Refusal) → WalkSays ready.list [] 0 part (Err r) → refused (row_of r) ≡ looks_with ready.list.tables.loaded.input 1 contig
    unfolding RecordsWalked measuring ◌>>◌
    walk_refused r says =
        let walked : RecordsRefused (all_records ready.list.tables) [] [] part (row_of r) = says (measuring ready.list) in
        sym (then_refused _ _ walked.merged)

    pub walk_accepted : (end : ListEnd) {figure : ℕ} → WalkSays ready.list [] 0 part (Ok end)
        → ((lent : SitesReady s rows samples sites clipped clip order runs) → figure ≡ contig_looks lent.tables.loaded.input contig)
        → accepted figure ≡ looks_with ready.list.tables.loaded.input 1 contig
    unfolding RecordsWalked measuring ◌>>◌ sites_ready
    walk_accepted end says counted =
        let laid : RecordsLaid (all_records ready.list.tables) [] [] 0 part end.at end.count = says (measuring ready.list) in
        sym (then _ _ laid.merged (ap accepted (sym (counted sites_ready))))

-- ---- from the tables

module _ {s rows : List ℕ} {samples sites : ℕ} {clipped : Bool} {clip : List ℕ} {referenced : Bool} {reference : List ℕ}
    (ready : TablesReady s rows samples sites clipped clip referenced reference) where
  -- the sites by sample and the contigs in order
  module _ {zeros firsts : List ℕ} {n : ℕ} (long : sites ≤ length zeros) (o : ContigOrder s rows ready.call.loaded.input.cohort.sites zeros firsts n)
      {order runs : List ℕ} (g : Runs order runs samples (sample_keys rows sites)) where
    pub contigs_ready : ContigsReady s rows samples sites clipped clip referenced reference (take n firsts) order runs
    unfolding list_ready
    contigs_ready = record { names = ready.names; list = list_ready ready.call long o g; all_sites = ready.call.all_sites }

    pub contigs_answered : (contig : List ℕ) (r : Result ℕ Refusal)
        → ((lent : ContigsReady s rows samples sites clipped clip referenced reference (take n firsts) order runs)
        → checked_of r ≡ looks_with lent.list.tables.loaded.input 1 contig)
        → checked_of r ≡ looks_with ready.call.loaded.input 1 contig
    unfolding contigs_ready list_ready
    contigs_answered contig r says = says contigs_ready

  -- row 10
  pub placeless : (places : ℕ) (contig : List ℕ) → eqb places 0 && ltb 0 sites ≡ true → refused 10 ≡ looks_with ready.call.loaded.input places contig
  unfolding ◌>>◌ list_of
  placeless places contig none =
      let x = ready.call.loaded.input in
      let (zero, some) = both_of (eqb places 0) (ltb 0 sites) none in
      let site : 1 ≤ length x.cohort.sites = omega (arith, ltb-true 0 sites some, ready.call.all_sites) in
      let e : list_of x places ≡ refused 10 = list_without_place x places site (eqb-true places 0 zero) in
      refused_back (combined_records x places) _ e (λ r. sym (then_refused _ _ r)) (λ records r e. not_refused (sym e))

  pub placed : (places : ℕ) (contig : List ℕ) → eqb places 0 && ltb 0 sites ≡ false
      → looks_with ready.call.loaded.input 1 contig ≡ looks_with ready.call.loaded.input places contig
  placed places contig some =
      let x = ready.call.loaded.input in
      ap (λ (records : Checked (List Record)). records >> accepted (contig_looks x contig))
      (sym (records_placed x places (rw ready.call.all_sites at some)))

-- ---- from the texts

pub texts_refused : (t : Texts) (places : ℕ) (contig : List ℕ) {row : ℕ} → input_of t ≡ refused row → refused row ≡ looks_of t places contig
unfolding looks_of
texts_refused t places contig e = sym (then_refused _ _ e)

module _ {s : List ℕ} {clipped : Bool} {clip : List ℕ} {referenced : Bool} {reference names rows : List ℕ} {table_length samples sites : ℕ}
    (t : TextsLoaded s clipped clip referenced reference names rows table_length samples sites) where
  pub tables_ready : TablesReady s rows samples sites clipped clip referenced reference
  tables_ready = record { names = names; call = t.call }

  pub loaded_answered : (places : ℕ) (contig : List ℕ) (r : Result ℕ Refusal)
      → ((lent : TablesReady s rows samples sites clipped clip referenced reference)
      → checked_of r ≡ looks_with lent.call.loaded.input places contig)
      → checked_of r ≡ looks_of (texts_of s clipped clip referenced reference) places contig
  unfolding looks_of tables_ready
  loaded_answered places contig r says = says tables_ready ∙ sym (then _ _ t.read refl)

-- ---- scratch is zero at the end

pub looks_answered : (t : Texts) (contig scratch scratch₁ : List ℕ) {scratch' : List ℕ} (r : Result ℕ Refusal)
    → checked_of r ≡ looks_of t (length scratch) contig → length scratch₁ ≡ length scratch → scratch' ≡ scratch_after scratch₁
    → LooksAnswered t contig scratch scratch' r
looks_answered t contig scratch scratch₁ r answer same cleared =
    record { answer = answer; cleared = cleared ∙ scratch_same scratch₁ scratch same }
