-- The theorems `AskedAlone` and `LookedUpWhole` of specs/: both read the same header, and then some of the same records.
use Prim.Native.Nat.{◌*◌, ◌+◌, ◌≤◌, suc, ℕ}
use lib.ListN.{drop, get_elem?, length}
use mathlib.Core.List.{List, [], ◌∷◌, map}
use mathlib.Core.Option.{Option, none, some}
use mathlib.Core.Path.{◌∙◌, ◌≡◌, ap, refl, subst, sym}
use native.Mathlib.Omega.{arith}
use Rattle.definitions.specs.Checked.{Checked, accepted, read_each}
use Rattle.definitions.specs.Cohort.{samples_of}
use Rattle.definitions.specs.Lines.{Line, line_at, lines_of}
use Rattle.definitions.specs.ListReader.{WrittenList, list_read, record_lines, record_read, sample_lines, with_missing}
use Rattle.definitions.specs.Lists.{groups_of, index_where}
use Rattle.definitions.specs.LookUp.{LookedUp, Place, holds_place, last_of, looked_up, read_to, read_to_last, steps_to}
use Rattle.definitions.specs.Numbers.{number}
use Rattle.definitions.specs.Records.{Record}
use Rattle.laws.proofs.Checked.{accepted_same, after_then, then}
use Rattle.laws.proofs.LookUp.{index_kept, not_after_refl, places_in_order, read_less, read_to_sound, read_whole, up_to_few, up_to_steps, up_to}
use Rattle.laws.proofs.Members.{at_map}
use Rattle.laws.proofs.RecordsInOrder.{in_list_order}
use Rattle.laws.proofs.SoundList.{list_sound}
use Rattle.demands.specs.AskedAlone.{AskedAlone, LookedUpWhole}

-- the record groups of a list
abbrev groups_in : List ℕ → ℕ → ℕ → List (List Line)
groups_in s samples count = with_missing count (groups_of (record_lines + sample_lines * samples) (drop (2 + samples) (lines_of s)))

-- what was read for places that were looked up
record Read (s : List ℕ) (places : List Place) (l : LookedUp) : Type 0 where
  names : List (List ℕ)
  count : ℕ
  records : List Record
  header : samples_of (lines_of s) ≡ accepted names
  figure : line_at (lines_of s) (suc (length names)) "records" number ≡ accepted count
  to_last : read_to_last (length names) count (last_of places) (groups_in s (length names) count) ≡ accepted records
  answer : record { found = map (λ p. index_where (holds_place p) records) places; groups = length records } ≡ l

was_read : (s : List ℕ) (places : List Place) (l : LookedUp) → looked_up s places ≡ accepted l → Read s places l
unfolding looked_up
was_read s places l e =
    after_then _ _ e λ names p e. after_then _ _ e λ count q e. after_then _ _ e λ records r e.
    record { names = names; count = count; records = records; header = p; figure = q; to_last = r; answer = accepted_same e }

-- the records were read up to the first that reaches the last place
to_place : {s : List ℕ} {places : List Place} {l : LookedUp} (r : Read s places l) (q : Place) → last_of places ≡ some q
    → read_to (length r.names) r.count q [] (groups_in s (length r.names) r.count) ≡ accepted r.records
unfolding read_to_last
to_place {s} r q last =
    sym (ap (λ (o : Option Place). read_to_last (length r.names) r.count o (groups_in s (length r.names) r.count)) last)
    ∙ r.to_last

answer_at : {s : List ℕ} {places : List Place} {l : LookedUp} (r : Read s places l) (k : ℕ) (p : Place) → get_elem? places k ≡ some p
    → get_elem? l.found k ≡ some (index_where (holds_place p) r.records)
answer_at {places = places} r k p at =
    subst (λ (l : LookedUp). get_elem? l.found k ≡ some (index_where (holds_place p) r.records)) r.answer
    (at_map (λ p. index_where (holds_place p) r.records) places k at)

groups_are : {s : List ℕ} {places : List Place} {l : LookedUp} (r : Read s places l) → l.groups ≡ length r.records
groups_are r = sym (ap (λ (l : LookedUp). l.groups) r.answer)

pub asked_alone : AskedAlone
unfolding looked_up read_to_last last_of
asked_alone s asked places l read e k p at =
    let (q, last, before) = places_in_order asked places read k p at in
    let r = was_read s places l e in
    let to = to_place r q last in
    let groups = groups_in s (length r.names) r.count in
    let in_order_lem = (in_list_order (read_to_sound (length r.names) r.count q [] r.records groups to)).1 in
    let one : (o : Option ℕ) → o ≡ index_where (holds_place p) r.records
    → ◌≡◌ {A = Checked LookedUp} (accepted (record { found = o ∷ []; groups = length (up_to p r.records) }))
    (accepted (record { found = index_where (holds_place p) r.records ∷ []; groups = length (up_to p r.records) })) =
    λ o same. rw same in (
      index_where (holds_place p) r.records,
      length (up_to p r.records),
      answer_at r k p at,
      then _ _ r.header (then _ _ r.figure
          (then _ _ (read_less (length r.names) r.count p q before [] r.records groups to)
          (one _ (index_kept p p (not_after_refl p) in_order_lem)))),
      omega (arith, up_to_few p r.records, groups_are r),
    )

-- the records of a list that reads as a whole, by its header
whole_read : (s : List ℕ) (names : List (List ℕ)) (count : ℕ) (w : WrittenList)
    → samples_of (lines_of s) ≡ accepted names → line_at (lines_of s) (suc (length names)) "records" number ≡ accepted count
    → list_read s ≡ accepted w
    → read_each (record_read (length names) count) [] (groups_in s (length names) count) ≡ accepted w.records
unfolding list_read
whole_read s names count w header figure e =
    after_then _ _ (sym (then _ _ header (then _ _ figure refl)) ∙ e) λ records r same.
    r ∙ ap (λ (w : WrittenList). accepted w.records) (accepted_same same)

pub looked_up_whole : LookedUpWhole
unfolding read_to_last
looked_up_whole s asked places l w read e whole = (answers, steps, few (last_of places) refl)
  where
    r : Read s places l
    r = was_read s places l e

    groups : List (List Line)
    groups = groups_in s (length r.names) r.count

    records_are : (q : Place) → last_of places ≡ some q → r.records ≡ up_to q w.records
    records_are q last = accepted_same
        (sym (to_place r q last)
        ∙ read_whole (length r.names) r.count q [] w.records groups
        (whole_read s r.names r.count w r.header r.figure whole))

    answers : (k : ℕ) (p : Place) → get_elem? places k ≡ some p → get_elem? l.found k ≡ some (index_where (holds_place p) w.records)
    answers k p at =
        let (q, last, before) = places_in_order asked places read k p at in
        answer_at r k p at
        ∙ ap (λ (rs : List Record). some (index_where (holds_place p) rs)) (records_are q last)
        ∙ ap {B = Option (Option ℕ)} some (index_kept p q before (in_list_order (list_sound s w whole).records).1)

    steps : (p : Place) → last_of places ≡ some p → l.groups ≡ steps_to p w.records
    steps p last = groups_are r ∙ ap length (records_are p last) ∙ up_to_steps p w.records

    few : (o : Option Place) → last_of places ≡ o → l.groups ≤ length w.records
    few none last =
        let none_read : accepted [] ≡ accepted r.records =
        ap (λ (o : Option Place). read_to_last (length r.names) r.count o groups) (sym last) ∙ r.to_last in
        omega (arith, groups_are r, ap length (accepted_same none_read))
    few (some q) last = omega (arith, steps q last, up_to_steps q w.records, up_to_few q w.records)
