-- The search front to back answers as the definition does: `search_is`.
use Prim.Native.Nat.{◌+◌, suc, ℕ}
use lib.ListN.{length}
use mathlib.Core.Bool.{Bool, cond, false, true}
use mathlib.Core.List.{List, [], ◌∷◌, map}
use mathlib.Core.Logic.{◌⊎◌, inl, inr}
use mathlib.Core.Option
use mathlib.Core.Option.{Option, none, some}
use mathlib.Core.Path.{◌∙◌, ◌≡◌, ap, ap₂, refl, sym}
use native.Mathlib.Nat.{add-zero, zero-add}
use native.Mathlib.Omega.{arith}
use Rattle.definitions.specs.Checked.{Checked, ◌>>=◌, accepted, refused}
use Rattle.definitions.specs.Lines.{Line}
use Rattle.definitions.specs.ListReader.{record_read}
use Rattle.definitions.specs.Lists.{index_where, only_if}
use Rattle.definitions.specs.LookUp.{LookedUp, Place, holds_place, last_of, not_after, reaches, read_to, read_to_last}
use Rattle.definitions.specs.Records.{Record}
use Rattle.laws.proofs.Checked.{accepted_same}
use Rattle.laws.proofs.Every.{Every, Pairwise, alone, also, before_all, every_map, index_none, map_every, pairwise_head}
use Rattle.laws.proofs.LookUp.{InOrder, last_not_before, not_after_refl, not_held, not_reached, reaches_before, read_to_sound}
use Rattle.laws.proofs.RecordsInOrder.{After, behind_in_order}
use Rattle.laws.proofs.Tests.{clash}
use Rattle.position_lookup.specs.Search.{Standing, held_by, look_on, reached_by, read_until}

-- the number of the record that holds a place, among the one read last and those that are read from here on
held_from : Place → List Record → List Record → Option ℕ
held_from p [] more = index_where (holds_place p) more
held_from p (r ∷ rs) more = cond (holds_place p r) (some (length rs)) (Option.map (λ i. suc (length rs) + i) (index_where (holds_place p) more))

-- one more record is read: of those before none holds the place
held_next : (p : Place) (before : List Record) (r : Record) (more : List Record) → reached_by p before ≡ false
    → held_from p before (r ∷ more) ≡ held_from p (r ∷ before) more
unfolding held_from reached_by index_where
held_next p [] r more h = go (holds_place p r) (index_where (holds_place p) more)
  where
    go : (b : Bool) (o : Option ℕ) → cond b (some 0) (Option.map suc o) ≡ cond b (some 0) (Option.map (λ i. 1 + i) o)
    go true o = refl
    go false none = refl
    go false (some i) = let e : suc i ≡ 1 + i = omega arith in rw e
held_next p (q ∷ rs) r more h = rw (not_reached p q h) (go (holds_place p r) (index_where (holds_place p) more))
  where
    go : (b : Bool) (o : Option ℕ) → Option.map (λ i. suc (length rs) + i) (cond b (some 0) (Option.map suc o))
        ≡ cond b (some (suc (length rs))) (Option.map (λ i. suc (suc (length rs)) + i) o)
    go true o = let e : suc (length rs) + 0 ≡ suc (length rs) = omega arith in rw e
    go false none = refl
    go false (some i) = let e : suc (length rs) + suc i ≡ suc (suc (length rs)) + i = omega arith in rw e

-- the place is reached and the records from here on are behind: none of them holds it
held_none : (p : Place) (before more : List Record) → index_where (holds_place p) more ≡ none → held_from p before more ≡ held_by p before
unfolding held_from held_by only_if
held_none p [] more e = e
held_none p (r ∷ rs) more e = rw e (go (holds_place p r))
  where
    go : (b : Bool) → cond b (some (length rs)) none ≡ only_if b (length rs)
    go true = refl
    go false = refl

not_before_reached : (p q : Place) (before : List Record) → not_after p q ≡ true → reached_by p before ≡ false → reached_by q before ≡ false
unfolding reached_by
not_before_reached p q [] h e = refl
not_before_reached p q (r ∷ rs) h e = go (reaches q r) refl
  where
    go : (b : Bool) → reaches q r ≡ b → b ≡ false
    go false k = refl
    go true k = clash (reaches_before p q r h k) e

-- of some places there is a last
some_last : (p : Place) (ps : List Place) → (q : Place) × (last_of (p ∷ ps) ≡ some q)
unfolding last_of
some_last p [] = (p, refl)
some_last p (q ∷ ps) = some_last q ps

either_way : {A : Type 0} (b : Bool) (a : A) → cond b a a ≡ a
either_way true a = refl
either_way false a = refl

module _ (samples records : ℕ) where
  -- the records that are still read for the last place
  more_for : Option Place → List Record → List (List Line) → Checked (List Record)
  more_for none before gs = accepted []
  more_for (some q) before gs = cond (reached_by q before) (accepted []) (read_to samples records q before gs)

  -- the answers from here on, by them
  answers : List Place → List Record → List Record → LookedUp
  answers ps before more = record { found = map (λ p. held_from p before more) ps; groups = length before + length more }

  whole : List Place → List Record → List (List Line) → Checked LookedUp
  whole ps before gs = more_for (last_of ps) before gs >>= λ more. accepted (answers ps before more)

  -- a group is read
  more_next : (q : Place) (before : List Record) (g : List Line) (gs : List (List Line)) (r : Record) → reached_by q before ≡ false
      → record_read samples records before g ≡ accepted r
      → more_for (some q) before (g ∷ gs) ≡ (more_for (some q) (r ∷ before) gs >>= λ more. accepted (r ∷ more))
  unfolding more_for read_to ◌>>=◌ reached_by
  more_next q before g gs r h e = rw (h, e)

  more_refused : (q : Place) (before : List Record) (g : List Line) (gs : List (List Line)) (n : ℕ) → reached_by q before ≡ false
      → record_read samples records before g ≡ refused n → more_for (some q) before (g ∷ gs) ≡ refused n
  unfolding more_for read_to ◌>>=◌
  more_refused q before g gs n h e = rw (h, e)

  whole_refused : (p : Place) (ps : List Place) (before : List Record) (g : List Line) (gs : List (List Line)) (n : ℕ) → InOrder (p ∷ ps)
      → reached_by p before ≡ false → record_read samples records before g ≡ refused n → whole (p ∷ ps) before (g ∷ gs) ≡ refused n
  unfolding whole ◌>>=◌
  whole_refused p ps before g gs n ordered h e =
      let (q, last) = some_last p ps in
      rw (last, more_refused q before g gs n (not_before_reached p q before (last_not_before q ordered last) h) e)

  -- nothing is read any more for a place that is reached, or where no group is left
  Arrived : Place → List Record → List (List Line) → Type 0
  Arrived p before gs = (reached_by p before ≡ true) ⊎ (gs ≡ [])

  more_none : (p : Place) (before : List Record) (gs : List (List Line)) → Arrived p before gs → more_for (some p) before gs ≡ accepted []
  unfolding Arrived more_for read_to
  more_none p before gs (inl h) = rw h
  more_none p before gs (inr e) = rw e (either_way (reached_by p before) (accepted []))

  -- and what is read behind it for later ones does not hold it
  none_behind : (p q : Place) (before more : List Record) (gs : List (List Line)) → Arrived p before gs
      → more_for (some q) before gs ≡ accepted more → index_where (holds_place p) more ≡ none
  unfolding Arrived more_for read_to reached_by index_where
  none_behind p q before more gs (inr e) k = rw (← accepted_same (sym (either_way (reached_by q before) (accepted [])) ∙ rw e at k))
  none_behind p q [] more gs (inl h) k = clash h refl
  none_behind p q (r ∷ rs) more gs (inl h) k = go (reaches q r) k
    where
      go : (b : Bool) → cond b (accepted []) (read_to samples records q (r ∷ rs) gs) ≡ accepted more → index_where (holds_place p) more ≡ none
      go true e = rw (← accepted_same e)
      go false e =
          let (sound, in_order_lem, after) = behind_in_order r rs (read_to_sound samples records q (r ∷ rs) more gs e) in
          index_none (holds_place p) (every_map (λ x a. not_held p r x h a) after)

  -- ---- the places one after the other

  -- a place is answered where the search stands
  arrived : (p : Place) (ps : List Place) (before : List Record) (gs : List (List Line)) → Arrived p before gs
      → look_on samples records ps (record { read = before; left = gs }) ≡ whole ps before gs
      → (look_on samples records ps (record { read = before; left = gs })
      >>= λ l. accepted (record { found = held_by p before ∷ l.found; groups = l.groups }))
      ≡ whole (p ∷ ps) before gs
  unfolding whole answers last_of look_on ◌>>=◌ index_where more_for
  arrived p [] before gs at e =
      rw (more_none p before gs at, held_none p before [] refl)
      (let n : length before + 0 ≡ length before = omega arith in rw n)
  arrived p (q ∷ ps) before gs at e = rw e (go (more_for (last_of (q ∷ ps)) before gs) refl)
    where
      go : (m : Checked (List Record)) → more_for (last_of (q ∷ ps)) before gs ≡ m
          → ((m >>= λ more. accepted (answers (q ∷ ps) before more))
          >>= λ l. accepted (record { found = held_by p before ∷ l.found; groups = l.groups }))
          ≡ (m >>= λ more. accepted (answers (p ∷ q ∷ ps) before more))
      go (refused n) k = refl
      go (accepted more) k = rw (held_none p before more (behind (last_of (q ∷ ps)) k))
        where
          behind : (o : Option Place) → more_for o before gs ≡ accepted more → index_where (holds_place p) more ≡ none
          behind none k = rw (← accepted_same k)
          behind (some l) k = none_behind p l before more gs at k

  -- one more record is read for a place and those behind it
  turn : (p : Place) (ps : List Place) (before : List Record) (g : List Line) (gs : List (List Line)) (r : Record)
      → InOrder (p ∷ ps) → reached_by p before ≡ false → record_read samples records before g ≡ accepted r
      → whole (p ∷ ps) (r ∷ before) gs ≡ whole (p ∷ ps) before (g ∷ gs)
  unfolding whole answers ◌>>=◌
  turn p ps before g gs r ordered h e =
      let (q, last) = some_last p ps in
      let away = not_before_reached p q before (last_not_before q ordered last) h in
      rw (last, more_next q before g gs r away e) (go (more_for (some q) (r ∷ before) gs))
    where
      found : (more : List Record) → map (λ p. held_from p (r ∷ before) more) (p ∷ ps) ≡ map (λ p. held_from p before (r ∷ more)) (p ∷ ps)
      found more = map_every
          (every_map (λ x k. sym (held_next x before r more (not_before_reached p x before k h))) (also (not_after_refl p) (pairwise_head ordered)))

      same : (more : List Record) → answers (p ∷ ps) (r ∷ before) more ≡ answers (p ∷ ps) before (r ∷ more)
      same more =
          let n : suc (length before) + length more ≡ length before + suc (length more) = omega arith in
          ap₂ (λ (f : List (Option ℕ)) (n : ℕ). record { found = f; groups = n }) (found more) n

      go : (m : Checked (List Record)) → (m >>= λ more. accepted (answers (p ∷ ps) (r ∷ before) more))
          ≡ ((m >>= λ more. accepted (r ∷ more)) >>= λ more. accepted (answers (p ∷ ps) before more))
      go (refused n) = refl
      go (accepted more) = ap {B = Checked LookedUp} accepted (same more)

  -- the groups are read for a place one after the other, until it is answered
  on : (p : Place) (ps : List Place) → InOrder (p ∷ ps)
      → ((before : List Record) (gs : List (List Line)) → look_on samples records ps (record { read = before; left = gs }) ≡ whole ps before gs)
      → (gs : List (List Line)) (before : List Record)
      → look_on samples records (p ∷ ps) (record { read = before; left = gs }) ≡ whole (p ∷ ps) before gs
  unfolding look_on read_until ◌>>=◌ Arrived
  on p ps ordered rest [] before = arrived p ps before [] (inr refl) (rest before [])
  on p ps ordered rest (g ∷ gs) before =
      go (reached_by p before) refl (record_read samples records before g) refl (λ r. on p ps ordered rest gs (r ∷ before))
    where
      go : (b : Bool) → reached_by p before ≡ b → (m : Checked Record) → record_read samples records before g ≡ m
          → ((r : Record) → look_on samples records (p ∷ ps) (record { read = r ∷ before; left = gs }) ≡ whole (p ∷ ps) (r ∷ before) gs)
          → (cond b (accepted (record { read = before; left = g ∷ gs })) (m >>= λ r. read_until samples records p (r ∷ before) gs)
          >>= λ v. look_on samples records ps v >>= λ l. accepted (record { found = held_by p v.read ∷ l.found; groups = l.groups }))
          ≡ whole (p ∷ ps) before (g ∷ gs)
      go true h m e next = arrived p ps before (g ∷ gs) (inl h) (rest before (g ∷ gs))
      go false h (refused n) e next = sym (whole_refused p ps before g gs n ordered h e)
      go false h (accepted r) e next = next r ∙ turn p ps before g gs r ordered h e

  search_from : {ps : List Place} → InOrder ps → (before : List Record) (gs : List (List Line))
      → look_on samples records ps (record { read = before; left = gs }) ≡ whole ps before gs
  unfolding look_on whole answers last_of more_for ◌>>=◌
  search_from alone before gs = let n : length before + 0 ≡ length before = omega arith in rw n
  search_from (before_all {x = p} {xs = ps} a as') before gs = on p ps (before_all a as') (search_from as') gs before

  -- from the first group on it is what the definition says
  pub search_is : (ps : List Place) (gs : List (List Line)) → InOrder ps
      → look_on samples records ps (record { read = []; left = gs })
      ≡ (read_to_last samples records (last_of ps) gs
      >>= λ rs. accepted (record { found = map (λ p. index_where (holds_place p) rs) ps; groups = length rs }))
  unfolding whole answers more_for read_to_last reached_by held_from
  search_is ps gs ordered = search_from ordered [] gs ∙ go (last_of ps)
    where
      counted : (m : Checked (List Record)) → (m >>= λ more. accepted (answers ps [] more))
          ≡ (m >>= λ rs. accepted (record { found = map (λ p. index_where (holds_place p) rs) ps; groups = length rs }))
      counted m = simp zero-add

      go : (o : Option Place) → (more_for o [] gs >>= λ more. accepted (answers ps [] more))
          ≡ (read_to_last samples records o gs
          >>= λ rs. accepted (record { found = map (λ p. index_where (holds_place p) rs) ps; groups = length rs }))
      go none = counted (accepted [])
      go (some q) = counted (read_to samples records q [] gs)
