-- A value taken along the record groups: what it becomes along all of them is what it becomes along those that are left.
use Prim.Native.Nat.{ℕ}
use mathlib.Core.List.{List, [], ◌∷◌}
use mathlib.Core.Path.{◌∙◌, ◌≡◌, ap, refl, sym}
use Rattle.definitions.specs.Checked.{Checked, ◌>>=◌, accepted, read_each, refused}
use Rattle.definitions.specs.ListReader.{record_read}
use Rattle.definitions.specs.Records.{Record}
use Rattle.laws.proofs.Checked.{accepted_same, not_refused, then, then_refused}
use Rattle.list_reader.specs.RecordGroups.{PreviousOf}
use Rattle.list_reader.specs.declared.RecordPlace.{RecordPlace}
use Rattle.list_walk.specs.Walk.{LastStep, RecordStep, RefusedStep, StandsBehind, groups_at, record_at, start_of}
use Rattle.list_walk.specs.declared.ListCursor.{ListCursor}
use Rattle.list_walk.specs.declared.ListHeader.{ListHeader}
use Rattle.window_counts.specs.Along.{along}
use Rattle.depth_windows.specs.Along.{along_records, records_at}

module _ {S : Type 0} (f : S → Record → S) where
  -- a record, and those behind it
  with_first : (v : S) (a : Record) (m : Checked (List Record)) → along_records f v (m >>= λ rest. accepted (a ∷ rest)) ≡ along_records f (f v a) m
  unfolding along_records along ◌>>=◌
  with_first v a (refused n) = refl
  with_first v a (accepted rs) = refl

  -- what was accepted along them
  pub record AlongBack (v : S) (m : Checked (List Record)) (all : S) : Type 0 where
    pub later : List Record
    pub value : m ≡ accepted later
    pub same : along f v later ≡ all

  pub along_back : (v : S) (m : Checked (List Record)) {all : S} → along_records f v m ≡ accepted all → AlongBack v m all
  unfolding along_records
  along_back v (refused n) e = not_refused e
  along_back v (accepted rs) e = record { later = rs; value = refl; same = accepted_same e }

  pub refused_along : (v : S) (m : Checked (List Record)) {row : ℕ} → refused row ≡ along_records f v m → m ≡ refused row
  unfolding along_records
  refused_along v (refused n) {row} e = let same : n ≡ row = cc in ap {B = Checked (List Record)} refused same
  refused_along v (accepted rs) e = not_refused e

  module _ (s : List ℕ) (h : ListHeader) where
    -- the record groups at a cursor behind these records
    abbrev left : List Record → ListCursor → Checked (List Record)
    left before c = read_each (record_read h.samples h.records) before (groups_at s h c)

    pub record Walking (all : Checked S) (c : ListCursor) (v : S) : Type 0 where
      pub before : List Record
      pub stands : StandsBehind s before c
      pub rest : along_records f v (left before c) ≡ all

    pub walk_start : (v : S) → Walking (along_records f v (records_at s h)) (start_of h) v
    unfolding records_at PreviousOf
    walk_start v = record { before = []; stands = record { read = refl; previous = refl }; rest = refl }

    module _ {all : Checked S} {c : ListCursor} {v : S} (w : Walking all c v) where
      pub walk_end : {rows₀ rows : List ℕ} → LastStep s h c rows₀ rows → all ≡ accepted v
      unfolding along_records along read_each
      walk_end last = sym w.rest ∙ ap (λ gs. along_records f v (read_each (record_read h.samples h.records) w.before gs)) last.groups

      pub walk_refused : {rows₀ rows : List ℕ} {row : ℕ} → RefusedStep s h c rows₀ rows row → all ≡ refused row
      unfolding along_records read_each
      walk_refused {row = row} step =
          sym w.rest
          ∙ ap (λ gs. along_records f v (read_each (record_read h.samples h.records) w.before gs)) step.groups
          ∙ ap (along_records f v) (then_refused _ _ (step.value w.before w.stands))

      pub walk_next : {rows₀ rows : List ℕ} {p : RecordPlace} {c' : ListCursor} (step : RecordStep s h c rows₀ rows p c')
          → Walking all c' (f v (record_at step.to))
      unfolding read_each
      walk_next {c' = c'} step = record {
        before = record_at step.to ∷ w.before;
        stands = step.behind w.before w.stands;
        rest =
            sym (with_first v (record_at step.to) (left (record_at step.to ∷ w.before) c'))
            ∙ ap (along_records f v) (sym (then _ _ (step.value w.before w.stands) refl))
            ∙ ap (λ gs. along_records f v (read_each (record_read h.samples h.records) w.before gs)) (sym step.groups)
            ∙ w.rest;
      }

    -- where all is known, so is what is left
    pub walk_left : {all : S} {c : ListCursor} {v : S} (w : Walking (accepted all) c v) → AlongBack v (left w.before c) all
    walk_left {v = v} w = along_back v _ w.rest
