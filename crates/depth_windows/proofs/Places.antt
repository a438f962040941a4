-- The record at a place: its stretch, and a sample's DP by the table's row.
use Prim.Native.Nat.{◌+◌, ◌<◌, ◌≤◌, ℕ}
use lib.ListN.{get_or-map, get_or, length}
use mathlib.Core.Bool.{Bool, ◌&&◌, cond, true}
use mathlib.Core.List.{List, map}
use mathlib.Core.Option.{Option, none, some}
use mathlib.Core.Path.{◌∙◌, ◌≡◌, ap, refl, sym}
use native.Mathlib.Omega.{arith}
use Rattle.definitions.specs.Bytes.{same_bytes}
use Rattle.definitions.specs.Checked.{accepted}
use Rattle.definitions.specs.DepthWindows.{is_deep}
use Rattle.definitions.specs.Genotypes.{SampleData, missing_data}
use Rattle.definitions.specs.Lists.{numbers_from}
use Rattle.definitions.specs.ListReader.{record_read}
use Rattle.definitions.specs.Records.{Record, record_end}
use Rattle.laws.proofs.Members.{at_map, get_d_some, numbers_at_lem}
use Rattle.laws.proofs.SoundList.{record_sound}
use Rattle.laws.proofs.SoundRecords.{SoundRecord}
use Rattle.list_reader.specs.RecordGroups.{RecordTo, record_group, sample_at, without_gt}
use Rattle.list_reader.specs.declared.PreviousRecord.{PreviousRecord}
use Rattle.std.specs.Prelude as std
use Rattle.list_reader.specs.declared.RecordPlace.{RecordPlace}
use Rattle.list_walk.specs.Walk.{RecordStep, StandsBehind, record_at}
use Rattle.list_walk.specs.declared.ListCursor.{ListCursor}
use Rattle.list_walk.specs.declared.ListHeader.{ListHeader}
use Rattle.tables.specs.Tables.{dp_at}
use Rattle.window_counts.proofs.Along.{along_small}
use Rattle.window_counts.proofs.Reach.{end_small, pos_small}
use Rattle.window_counts.specs.Along.{Span, counts_with, span_with}
use Rattle.window_counts.specs.Counts.{AddReady, CountsSmall, WindowsReady, added, position_limit}
use Rattle.window_counts.specs.declared.Windows.{Windows}
use Rattle.depth_windows.specs.Along.{AddsReady, counts_along, is_added, place_added, place_end, place_span}
use Rattle.depth_windows.specs.declared.Asked.{Asked}

-- what tests of the parts of a text answer
pub on_is : (contig : List ℕ) {on v : Bool} {part there : List ℕ} → on ≡ same_bytes contig part → part ≡ there → on ≡ v → same_bytes contig there ≡ v
on_is contig e p q = ap (same_bytes contig) (sym p) ∙ sym e ∙ q

pub deep_is : (threshold : ℕ) (rows : List ℕ) {deep v : Bool} {sample i : ℕ} {dp : Option ℕ} → deep ≡ is_deep threshold dp → dp ≡ dp_at rows i → i ≡ sample
    → deep ≡ v → is_deep threshold (dp_at rows sample) ≡ v
deep_is threshold rows e p q r =
    ap (λ (i : ℕ). is_deep threshold (dp_at rows i)) (sym q) ∙ ap (is_deep threshold) (sym p) ∙ sym e ∙ r

-- a sample's DP is that of its row
table_dp : (s rows : List ℕ) (sample_data : List SampleData) (samples sample : ℕ)
    → map without_gt sample_data ≡ map (sample_at s rows) (numbers_from 0 samples) → sample < samples
    → dp_at rows sample ≡ (get_or sample_data sample missing_data).dp
unfolding without_gt sample_at missing_data
table_dp s rows sample_data samples sample e h =
    let row = get_d_some (map (sample_at s rows) (numbers_from 0 samples)) sample missing_data (at_map (sample_at s rows) (numbers_from 0 samples) sample (numbers_at_lem 0 samples sample h)) in
    let same = ap (λ (l : List SampleData). (get_or l sample missing_data).dp) e in
    let without = ap (λ (v : SampleData). v.dp) (get_or-map without_gt sample_data sample missing_data) in
    let here : sample ≡ 0 + sample = omega arith in
    ap (dp_at rows) here ∙ sym (ap (λ (v : SampleData). v.dp) row) ∙ sym same ∙ without

module _ {s : List ℕ} {at samples : ℕ} {last : std.Option PreviousRecord} {rows₀ rows : List ℕ} {p : RecordPlace} (to : RecordTo s at samples last rows₀ rows p) where
  pub place_end_lem : place_end p ≡ record_end (record_at to)
  unfolding record_end
  place_end_lem = refl

  pub place_span_lem : (contig : List ℕ) (span : Option Span) → place_span s p contig span ≡ span_with contig span (record_at to)
  unfolding span_with record_end
  place_span_lem contig span = refl

  pub place_added_lem : (contig : List ℕ) (asked : Asked) (w : Windows) (counts : List ℕ) → asked.sample.0 < samples
      → place_added s p rows contig asked w counts ≡ counts_with contig asked.sample.0 asked.threshold w counts (record_at to)
  unfolding counts_with record_end
  place_added_lem contig asked w counts h = rw (table_dp s rows to.sample_data samples asked.sample.0 to.table h)

-- the record at a step is sound
pub step_sound : {s : List ℕ} {h : ListHeader} {c : ListCursor} {rows₀ rows : List ℕ} {p : RecordPlace} {c' : ListCursor} {before : List Record}
    (step : RecordStep s h c rows₀ rows p c') → StandsBehind s before c → SoundRecord h.samples (record_at step.to)
step_sound {s} {h} {c} {before = before} step stands =
    (record_sound h.samples h.records before (record_group s c.next h.samples) _ (step.value before stands)).sound

-- so it may be added to counts, if what they become is small
pub adds_ready : {s : List ℕ} {h : ListHeader} {c : ListCursor} {rows₀ rows : List ℕ} {p : RecordPlace} {c' : ListCursor} {before : List Record} (later : List Record)
    (step : RecordStep s h c rows₀ rows p c') → StandsBehind s before c
    → (contig : List ℕ) (asked : Asked) (w : Windows) (counts : List ℕ) → WindowsReady w → asked.sample.0 < h.samples
    → CountsSmall (counts_along contig asked w (counts_with contig asked.sample.0 asked.threshold w counts (record_at step.to)) later)
    → AddsReady s p rows contig asked w counts
unfolding record_end
adds_ready {s} {rows = rows} {p = p} later step stands contig asked w counts ready there small yes-added =
    let sound = step_sound step stands in
    let is = place_added_lem step.to contig asked w counts there in
    let next = along_small contig asked.sample.0 asked.threshold w _ later small in
    let now_small : CountsSmall (place_added s p rows contig asked w counts) = rw is next in
    record {
      windows = ready;
      start_small = pos_small (record_at step.to) sound;
      end_small = end_small (record_at step.to) sound;
      fits = rw yes-added at now_small;
    }
