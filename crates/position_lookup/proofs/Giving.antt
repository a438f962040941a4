-- From what was looked up to the answer of a call.
use Prim.Native.Nat.{◌*◌, ◌+◌, ◌-◌, ◌<◌, ◌≤◌, suc, ℕ}
use borrow.Author.Tests.{le-leb, lt-leb}
use lib.ListN.{drop, length, length-map, take}
use lib.Seq.{length-sets, sets, take_at}
use mathlib.Core.Bool.{◌&&◌, and-false, false, true}
use mathlib.Core.List.{List, [], ◌++◌, ◌∷◌, map}
use mathlib.Core.Path.{◌∙◌, ◌≡◌, ap, refl, sym}
use native.Mathlib.Omega.{arith}
use Rattle.cohort.proofs.Whole.{names_count}
use Rattle.definitions.specs.Answers.{output_after}
use Rattle.definitions.specs.Checked.{Checked, ◌>>=◌, accepted, refused}
use Rattle.definitions.specs.CombinedList.{fits}
use Rattle.definitions.specs.Lines.{lines_of}
use Rattle.definitions.specs.ListReader.{record_lines, sample_lines, with_missing}
use Rattle.definitions.specs.Lists.{groups_of, index_where}
use Rattle.definitions.specs.LookUp as definitions
use Rattle.definitions.specs.LookUp.{Place, found_numbers, holds_place, last_of, look_up, look_up_within, looked_up, numbers_written, places_of, read_to_last}
use Rattle.kv_write.proofs.Laying.{sets_front}
use Rattle.laws.proofs.Checked.{accepted_same, after_then, not_refused, not_required, refused_back, required, then, then_refused}
use Rattle.laws.proofs.LookUp.{InOrder}
use Rattle.list_walk.specs.Walk.{HeaderTo, Heading, groups_at, heading_of, start_of}
use Rattle.list_walk.specs.declared.ListHeader.{ListHeader}
use Rattle.tables.specs.Tables.{names_in}
use Rattle.position_lookup.proofs.Merged.{search_is}
use Rattle.position_lookup.specs.Found.{FoundGiven, Gives, PairsFound, counts_of, search_of, with_room}
use Rattle.position_lookup.specs.Search.{Standing, look_on}
use Rattle.position_lookup.specs.declared.LookedUp.{LookedUp}
use Rattle.answers.specs.Answered.{row_of}
use Rattle.answers.specs.declared.Refusal.{Refusal}
use Rattle.std.specs.Prelude as std

-- ---- the answer

pub gives_refused : {m : Checked definitions.LookedUp} {out out' : List ℕ} {r : Refusal} → m ≡ refused (row_of r) → out' ≡ out → Gives m out out' (std.Err r)
unfolding counts_of output_after numbers_written
gives_refused e same = record { answer = rw e; written = rw e same }

gives_found : {m : Checked definitions.LookedUp} {out out' : List ℕ} (l : definitions.LookedUp) (n groups : ℕ) → m ≡ accepted l → n ≡ length l.found → groups ≡ l.groups
    → out' ≡ found_numbers l.found ++ drop (length (found_numbers l.found)) out → Gives m out out' (std.Ok (record { pairs = n; groups = groups }))
unfolding counts_of output_after numbers_written
gives_found l n groups e counted read same = record { answer = rw (e, counted, read); written = rw e same }

-- as many answers as places
pub found_length : (samples records : ℕ) (ps : List Place) (w : Standing) (l : definitions.LookedUp) → look_on samples records ps w ≡ accepted l
    → length l.found ≡ length ps
unfolding look_on
found_length samples records [] w l e = rw (← accepted_same e)
found_length samples records (p ∷ ps) w l e =
    after_then _ _ e λ v k e. after_then _ _ e λ rest f e.
    rw (← accepted_same e) (ap suc (found_length samples records ps v rest f))

-- the table keeps its size
pub stored_size : {search : Checked definitions.LookedUp} {found₀ found : List ℕ} {groups : ℕ} → PairsFound search found₀ found groups
    → length found ≡ length found₀
stored_size {found₀ = found₀} f = ap length f.stored ∙ length-sets found₀ 0 (found_numbers f.answer.found)

module _ {search : Checked definitions.LookedUp} {found₀ found : List ℕ} {groups count : ℕ} (f : PairsFound search found₀ found groups)
    (counted : count ≡ length f.answer.found) (fit : count ≤ length found₀) where
  abbrev numbers : List ℕ
  numbers = found_numbers f.answer.found

  numbers_count : length numbers ≡ count
  unfolding found_numbers
  numbers_count = length-map f.answer.found _ ∙ sym counted

  in_front_lem : take count found ≡ numbers
  in_front_lem =
      ap (take count) (f.stored ∙ sets_front found₀ numbers (omega (arith, numbers_count)))
      ∙ take_at numbers (drop (length numbers) found₀) count numbers_count

  pub found_given : {out out' : List ℕ} (r : std.Result LookedUp Refusal) → FoundGiven found count groups out out' r → Gives (with_room (length out) search) out out' r
  unfolding FoundGiven
  found_given {out} (std.Ok l) (n_is, g_is, room, same) =
      gives_found f.answer l.pairs l.groups
      (then _ _ f.value (required 14 _ _ (le-leb (length f.answer.found) (length out) (omega (arith, counted))) refl))
      (n_is ∙ counted)
      (g_is ∙ f.groups_are)
      (same ∙ ap (sets out 0) in_front_lem ∙ sets_front out numbers (omega (arith, numbers_count)))
  found_given {out} (std.Err r) (row_is, short, same) =
      gives_refused
      (then _ _ f.value
      (not_required 14 _ _ (lt-leb (length f.answer.found) (length out) (omega (arith, counted)))) ∙ rw row_is)
      same

-- ---- the header

pub heading_refused : (s : List ℕ) (places : List Place) {row : ℕ} → heading_of s ≡ refused row → looked_up s places ≡ refused row
unfolding heading_of looked_up
heading_refused s places e =
    refused_back _ _ e (λ k. then_refused _ _ k)
    (λ heads p e. refused_back _ _ e (λ k. then _ _ p (then_refused _ _ k)) (λ figure q e. not_refused (sym e)))

module _ {s names₀ names : List ℕ} {h : ListHeader} (t : HeaderTo s names₀ names h) (places : List Place) (ordered : InOrder places) where
  link : (heads : List (List ℕ)) (figure : ℕ) → heads ≡ names_in s names h.samples → figure ≡ h.records
      → (read_to_last (length heads) figure (last_of places)
      (with_missing figure (groups_of (record_lines + sample_lines * length heads) (drop (2 + length heads) (lines_of s))))
      >>= λ rs. accepted (record { found = map (λ p. index_where (holds_place p) rs) places; groups = length rs }))
      ≡ search_of s h places
  unfolding groups_at
  link heads figure e k =
      let z : h.records - 0 ≡ h.records = omega arith in
      rw (e, k, ← names_count s names h.samples, t.groups, z)
      (sym (search_is h.samples h.records places _ ordered))

  pub looked_up_is : looked_up s places ≡ search_of s h places
  unfolding heading_of looked_up
  looked_up_is =
      after_then _ _ t.value λ heads p e. after_then _ _ e λ figure q e.
      then _ _ p (then _ _ q (link heads figure (ap (λ (x : Heading). x.names) (accepted_same e)) (ap (λ (x : Heading). x.records) (accepted_same e))))

-- ---- the texts

module _ (s asked : List ℕ) (room : ℕ) where
  too_long_lem : fits s && fits asked ≡ false → look_up_within s asked room ≡ refused 2
  unfolding look_up_within look_up
  too_long_lem e = then_refused _ _ (not_required 2 _ _ e)

  pub list_too_long : 16777216 < length s → look_up_within s asked room ≡ refused 2
  unfolding fits
  list_too_long h = too_long_lem (rw (lt-leb (length s) 16777216 h))

  pub asked_too_long : 16777216 < length asked → look_up_within s asked room ≡ refused 2
  unfolding fits
  asked_too_long h = too_long_lem (rw (lt-leb (length asked) 16777216 h, and-false))

  module _ (short : length s ≤ 16777216) (few : length asked ≤ 16777216) where
    fitting : fits s && fits asked ≡ true
    unfolding fits
    fitting = rw (le-leb (length s) 16777216 short, le-leb (length asked) 16777216 few)

    pub pairs_refused : {row : ℕ} → places_of asked ≡ refused row → look_up_within s asked room ≡ refused row
    unfolding look_up_within look_up
    pairs_refused e = then_refused _ _ (required 2 _ _ fitting (then_refused _ _ e))

    pub look_up_is : (places : List Place) → places_of asked ≡ accepted places → look_up_within s asked room ≡ with_room room (looked_up s places)
    unfolding look_up_within look_up
    look_up_is places e = ap (with_room room) (required 2 _ _ fitting (then _ _ e refl))
