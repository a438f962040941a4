-- What the extent of a contig says of its windows, in a list that reads.
use Prim.Native.Nat.{◌-◌, ◌/◌, ◌<◌, ◌≤◌, suc, ℕ}
use lib.ListN.{length}
use mathlib.Core.List.{List, [], ◌∷◌}
use mathlib.Core.Option
use mathlib.Core.Option.{Option, none, some}
use mathlib.Core.Path.{◌∙◌, ◌≡◌, ap, refl, sym}
use native.Mathlib.Omega.{arith}
use Rattle.definitions.specs.DepthWindows.{first_position, last_position, records_on, windows_over}
use Rattle.definitions.specs.Limits.{max_window}
use Rattle.definitions.specs.Numbers.{max_number}
use Rattle.definitions.specs.Records.{Record, record_end}
use Rattle.laws.proofs.Decimals.{InRange}
use Rattle.laws.proofs.DepthWindows.{Apart, contig_apart, first_position_lem}
use Rattle.laws.proofs.Every.{Every, IfThere, also, every_filter, every_map, every_uncons, nothing}
use Rattle.laws.proofs.RecordsInOrder.{in_list_order}
use Rattle.laws.proofs.SoundRecords.{SoundRecord, SoundRecords}
use Rattle.window_counts.proofs.Along.{extent_along, extent_of, windows_along_lem, windows_small}
use Rattle.window_counts.specs.Along.{Span, along, counts_with, span_with, zeros}
use Rattle.window_counts.specs.Counts.{CountsSmall, position_limit}
use Rattle.window_counts.specs.declared.Windows.{Windows}

-- positions of a sound record leave room
pub pos_small : {samples : ℕ} (r : Record) → SoundRecord samples r → r.pos < position_limit
unfolding max_number
pos_small r h = omega (arith, h.in_range_lem)

pub end_small : {samples : ℕ} (r : Record) → SoundRecord samples r → record_end r < position_limit
unfolding record_end max_number
end_small r h = go r.end h.end_in_range
  where
    go : (o : Option ℕ) → IfThere InRange o → Option.get_or o r.pos < position_limit
    go none k = omega (arith, h.in_range_lem)
    go (some e) k = omega (arith, k)

last_small : {here : List Record} → Every (λ r. record_end r < position_limit) here → last_position here < position_limit
unfolding last_position
last_small nothing = omega arith
last_small (also {x = r} h hs) = let ih = last_small hs in omega arith

-- a first and a last position are those of records
pub record Reached (here : List Record) (span : Span) : Type 0 where
  pub some_there : 0 < length here
  pub first_is : span.first ≡ first_position here
  pub last_is : span.last ≡ last_position here
  pub first_small : span.first < position_limit
  pub last_small : span.last < position_limit
  pub from_first : span.first ≤ span.last

reached : {samples : ℕ} (here : List Record) (span : Span) → Every (SoundRecord samples) here → Apart here → extent_of here ≡ some span → Reached here span
unfolding extent_of
reached [] span sound apart e = absurd (let z : ◌≡◌ {A = ℕ} 0 1 = cc in omega arith)
reached (r ∷ rs) span sound apart e =
    let first : first_position (r ∷ rs) ≡ span.first = ap (λ (o : Option Span). (Option.get_or o span).first) e in
    let last : last_position (r ∷ rs) ≡ span.last = ap (λ (o : Option Span). (Option.get_or o span).last) e in
    let begins = first_position_lem r rs apart in
    let ends : record_end r ≤ last_position (r ∷ rs) = unfold last_position in omega arith in
    let forward = (every_uncons apart.each).0 in
    let small = pos_small r (every_uncons sound).0 in
    let all_small = last_small (every_map (λ r h. end_small r h) sound) in
    record {
      some_there = omega arith;
      first_is = sym first;
      last_is = sym last;
      first_small = omega arith;
      last_small = omega arith;
      from_first = omega arith;
    }

none_there : (here : List Record) → extent_of here ≡ none → here ≡ []
unfolding extent_of
none_there [] e = refl
none_there (r ∷ rs) e = absurd (let z : ◌≡◌ {A = ℕ} 0 1 = cc in omega arith)

module _ (contig : List ℕ) {samples : ℕ} {list : List Record} (sound : SoundRecords samples list) where
  pub no_extent : along (span_with contig) none list ≡ none → records_on contig list ≡ []
  no_extent e = none_there _ (sym (extent_along contig list (contig_apart contig sound)) ∙ e)

  pub some_extent : {span : Span} → along (span_with contig) none list ≡ some span → Reached (records_on contig list) span
  unfolding records_on
  some_extent {span} e =
      reached (records_on contig list) span (every_filter _ list (in_list_order sound).0) (contig_apart contig sound)
      (sym (extent_along contig list (contig_apart contig sound)) ∙ e)

  -- the counts from zero on are the definition's, and small
  module _ (sample threshold : ℕ) (w : Windows) {span : Span} (reach : Reached (records_on contig list) span) (begins : w.first.0 ≡ span.first) where
    pub counts_are : along (counts_with contig sample threshold w) (zeros (suc ((span.last - w.first.0) / w.step))) list
        ≡ windows_over (records_on contig list) sample threshold w.size w.step
    counts_are =
        windows_along_lem contig sample threshold w list (contig_apart contig sound) reach.some_there (begins ∙ reach.first_is) span.last reach.last_is

    pub counts_small : w.size ≤ max_window
        → CountsSmall (along (counts_with contig sample threshold w) (zeros (suc ((span.last - w.first.0) / w.step))) list)
    counts_small z k = rw counts_are
        (let few = windows_small (records_on contig list) sample threshold w.size w.step k in omega arith)
