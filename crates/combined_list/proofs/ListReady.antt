-- From the tables of a call to the sites by sample and the contigs in order.
use Prim.Native.Nat.{◌≤◌, ℕ}
use borrow.Author.Tests.{eq-eqb, eqb-true, lt-ltb, ltb-true}
use lib.Dec.{eqb, ltb}
use lib.ListN.{drop, length, length-append, length-map, take}
use lib.Seq.{take-append_seam}
use mathlib.Core.Bool.{Bool, ◌&&◌, false, true}
use mathlib.Core.List.{List, [], ◌++◌, ◌∷◌, flatten, map, map_congr_left}
use mathlib.Core.Path.{◌∙◌, ◌≡◌, ap, refl, subst, sym}
use native.Mathlib.Decide.{dec_le}
use native.Mathlib.Omega.{arith}
use Rattle.answers.proofs.Answers.{answered_refused}
use Rattle.answers.specs.Answered.{Answered}
use Rattle.answers.specs.declared.Refusal.{Refusal}
use Rattle.answers.specs.declared.Refusal.TheVariants as refusal
use Rattle.contigs.specs.Contigs.{ContigOrder, RowsFor}
use Rattle.covering_sites.proofs.Keys.{keys_fit}
use Rattle.covering_sites.specs.Covering.{KeysFit, sample_keys}
use Rattle.covering_sites.specs.Runs.{Runs}
use Rattle.definitions.specs.Bytes.{compare_bytes}
use Rattle.definitions.specs.Checked.{Checked, ◌>>=◌, accepted, in_order, within}
use Rattle.definitions.specs.Cohort.{Site}
use Rattle.definitions.specs.CombinedList.{Input, combined_records, contig_records, list_of}
use Rattle.definitions.specs.Intervals.{contigs_of}
use Rattle.definitions.specs.Lists.{ascending}
use Rattle.definitions.specs.Printed.{printed_list}
use Rattle.definitions.specs.Records.{Record}
use Rattle.kv_write.proofs.Laying.{sets_front}
use Rattle.laws.proofs.Checked.{then_refused}
use Rattle.laws.proofs.Every.{every_map}
use Rattle.laws.proofs.Orders.{ascending_few}
use Rattle.laws.proofs.ScratchPlaces.{list_without_place, records_placed}
use Rattle.laws.proofs.Tests.{both, both_of, clash}
use Rattle.std.specs.Prelude.{Result, Err}
use Rattle.combined_list.specs.WrittenList.{CallLoaded, ListReady, list_within}

module _ {s names rows : List ℕ} {samples sites : ℕ} {clipped : Bool} {clip : List ℕ} {referenced : Bool} {reference : List ℕ}
    (call : CallLoaded s names rows samples sites clipped clip referenced reference) where
  -- the table that order_contigs is lent
  abbrev pub rows_for_lem : RowsFor s rows sites
  rows_for_lem = record { sites = call.loaded.input.cohort.sites; table = call.loaded.table; all_sites = call.all_sites }

  -- and the keys that group_by_sample makes of it
  pub keys_of_rows : KeysFit rows sites
  keys_of_rows =
      let cohort = call.loaded.sound.cohort in
      rw call.all_sites (keys_fit call.loaded.table cohort.sites cohort.few_sites)

  module _ {zeros firsts : List ℕ} {n : ℕ} (long : sites ≤ length zeros)
      (o : ContigOrder s rows call.loaded.input.cohort.sites zeros firsts n) where
    contigs_few : length o.firsts ≤ length zeros
    unfolding contigs_of
    contigs_few =
        let many : length o.firsts ≡ length (contigs_of call.loaded.input.cohort.sites) = sym (length-map o.firsts _) ∙ ap length o.names in
        let few = ascending_few compare_bytes (map (λ (x : Site). x.contig) call.loaded.input.cohort.sites) in
        omega (arith, many, few, length-map call.loaded.input.cohort.sites (λ (x : Site). x.contig), call.all_sites)

    all_stored : firsts ≡ o.firsts ++ drop (length o.firsts) zeros
    all_stored = o.stored ∙ sets_front zeros o.firsts contigs_few

    pub firsts_within : n ≤ length firsts
    firsts_within = omega (arith, o.counted, ap length all_stored ∙ length-append o.firsts (drop (length o.firsts) zeros))

    pub firsts_are : take n firsts ≡ o.firsts
    firsts_are = rw (o.counted, all_stored) (take-append_seam o.firsts _)

    module _ {order runs : List ℕ} (g : Runs order runs samples (sample_keys rows sites)) where
      unfoldable pub list_ready : ListReady s names rows samples clipped clip referenced reference (take n firsts) order runs
      list_ready = record {
        tables = record { loaded = call.loaded; clip_given = call.clip_given; grouped = rw (← call.all_sites) g };
        in_order_lem = rw firsts_are o.names;
        firsts = rw firsts_are (every_map (λ i h. record { known = h.0; own = h.1 }) o.each);
        header = call.header;
        names_are = call.names_are;
      }

      pub loaded_answered : {out out' : List ℕ} {r : Result ℕ Refusal}
          → ((ready : ListReady s names rows samples clipped clip referenced reference (take n firsts) order runs)
          → Answered (list_within ready.tables.loaded 1 (length out)) out out' r)
          → Answered (list_within call.loaded 1 (length out)) out out' r
      unfolding list_ready
      loaded_answered says = says list_ready

  -- ---- the places of a call

  -- row 10 does not come
  pub placed_answered : (places : ℕ) → eqb places 0 && ltb 0 sites ≡ false → {out out' : List ℕ} {r : Result ℕ Refusal}
      → Answered (list_within call.loaded 1 (length out)) out out' r
      → Answered (list_within call.loaded places (length out)) out out' r
  unfolding list_of
  placed_answered places placed {out} {out'} {r} a =
      let same = records_placed call.loaded.input places (rw call.all_sites at placed) in
      subst (λ (c : Checked (List Record)). Answered (c >>= (λ records. accepted (printed_list call.loaded.input.cohort.names records))
      >>= within (length out)) out out' r) (sym same) a

  -- it comes: a site and no place
  pub placeless_refused : (places : ℕ) → eqb places 0 && ltb 0 sites ≡ true → (out : List ℕ)
      → Answered (list_within call.loaded places (length out)) out out (Err refusal.Scratch)
  placeless_refused places none out =
      let (zero, some) = both_of (eqb places 0) (ltb 0 sites) none in
      let site = ltb-true 0 sites some in
      answered_refused (then_refused _ _
      (list_without_place call.loaded.input places (omega (arith, call.all_sites)) (eqb-true places 0 zero))) refl
