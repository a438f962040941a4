-- One filling of scratch with the breakpoints of a contig: places are given one after the other, those outside a window are passed over,
-- and those at hand may be sorted and joined, or the upper ones dropped with a lower limit. However that went, sorted and joined they are
-- the breakpoints of the window in ascending order, each with its change of depth (`filled`).
use Prim.Native.Nat.{◌*◌, ◌+◌, ◌-◌, ◌<◌, ◌≤◌, compare, suc, zero, ℕ}
use borrow.Author.Tests.{le-ltb, lt-ltb, ltb-true}
use lib.Dec.{eqb, ltb}
use lib.ListN.{get_or, length, take}
use mathlib.Core.Bool.{Bool, ◌&&◌, cond, false, true}
use mathlib.Core.List.Memᴰ
use mathlib.Core.List.{List, [], ◌++◌, ◌∷◌, append-nil, flat_map, map, map-append}
use mathlib.Core.Logic.{◌⊎◌, ⊎_elim}
use mathlib.Core.Path.{◌∙◌, ◌≡◌, ap, refl, subst, sym}
use native.Mathlib.Omega.{arith}
use Rattle.definitions.specs.ClipAndReference.{Span}
use Rattle.definitions.specs.Intervals.{span_breakpoints}
use Rattle.definitions.specs.Lists.{ascending, by_order, filter_by, insert_new}
use Rattle.laws.proofs.ClipDepth.{Bounded, begun, count_cons, covers, depth, depth_step, ended, one}
use Rattle.laws.proofs.Every.{Every, Pairwise, before_all, every_all, every_at, every_member, every_of, every_of_map_back, map_every}
use Rattle.laws.proofs.Members.{◌∈◌, cons_cases, filter_all, filter_append, filter_both, filter_few, filter_by_map, filter_member, filter_no, filter_none, filter_same, filter_within, filter_yes, map_flat_map, member_filter, member_map}
use Rattle.laws.proofs.Orders.{ascending_member, compare_eq, member_ascending}
use Rattle.laws.proofs.Places.{join_ascends, join_sorted, join_from, join_places, low_append, low_at, low_part, low_part_at, low_place, no_change, place_at, places, places_again, places_filter, places_places, places_positions, places_same, position, position_at, weight, weights, weights_append, weights_places}
use Rattle.laws.proofs.Sorted.{insert, sorted}
use Rattle.laws.proofs.Tests.{both, both_of}
use Rattle.laws.proofs.Windows.{window, window_step, window_end, within}

-- what a clip span gives: a place where the depth goes up, and behind its end one where it goes down
unfoldable pub span_places : Span → List ℕ
span_places c = place_at c.start 2147483649 ∷ place_at (suc c.end) 2147483647 ∷ []

-- a place where the depth does not change
abbrev pub plain_place : ℕ → ℕ
plain_place b = place_at b no_change

-- all that is given: a plain place for each breakpoint of a site, and what spans give
unfoldable pub given_places : List ℕ → List Span → List ℕ
given_places bs spans = map plain_place bs ++ flat_map span_places spans

-- a breakpoint with its change of depth: up by the spans that start there, down by those that end before it
unfoldable pub place_of : List Span → ℕ → ℕ
place_of spans b = place_at b (no_change + begun spans b - ended spans b)

-- the places with a position in a window
abbrev pub places_within : ℕ → ℕ → List ℕ → List ℕ
places_within past limit = filter_by (λ e. within past limit (position e))

-- ---- what is given, by position

site_places_low : (p : ℕ) (bs : List ℕ) → low_at p (map plain_place bs) ≡ no_change
site_places_low p [] = unfold low_at in refl
site_places_low p (b ∷ bs) = low_place p b no_change _ (omega arith) ∙ go (eqb b p) (site_places_low p bs)
  where
    rest : ℕ
    rest = low_at p (map plain_place bs)

    go : (t : Bool) → rest ≡ no_change → cond t (rest + no_change - no_change) rest ≡ no_change
    go true h = omega arith
    go false h = h

site_places_weigh : (bs : List ℕ) → weights (map plain_place bs) ≡ 0
unfolding weights
site_places_weigh [] = refl
site_places_weigh (b ∷ bs) = omega (arith, site_places_weigh bs, low_part_at b no_change (omega arith))

-- each span goes up once and down once
span_places_weigh : (spans : List Span) → weights (flat_map span_places spans) ≡ 2 * length spans
unfolding weights span_places flat_map
span_places_weigh [] = refl
span_places_weigh (c ∷ spans) =
    omega (arith, span_places_weigh spans, low_part_at c.start 2147483649 (omega arith), low_part_at (suc c.end) 2147483647 (omega arith))

pub given_weigh : (bs : List ℕ) (spans : List Span) → weights (given_places bs spans) ≡ 2 * length spans
unfolding given_places
given_weigh bs spans =
    weights_append (map plain_place bs) (flat_map span_places spans)
    ∙ omega (arith, site_places_weigh bs, span_places_weigh spans)

-- the changes of spans at a position
span_places_low : (p : ℕ) (spans : List Span) → 2 * length spans < no_change
    → low_at p (flat_map span_places spans) + ended spans p ≡ no_change + begun spans p
unfolding span_places flat_map ended begun
span_places_low p [] light = unfold low_at filter_by in refl
span_places_low p (c ∷ spans) light =
    let behind = place_at (suc c.end) 2147483647 ∷ flat_map span_places spans in
    let up = low_place p c.start 2147483649 behind (omega arith) in
    let down = low_place p (suc c.end) 2147483647 (flat_map span_places spans) (omega arith) in
    rw (up, down, count_cons (λ c. eqb (suc c.end) p) c spans, count_cons (λ c. eqb c.start p) c spans)
    (go (eqb c.start p) (eqb (suc c.end) p) (span_places_low p spans (omega arith)))
  where
    low : ℕ
    low = low_at p (flat_map span_places spans)

    go : (s t : Bool) → low + ended spans p ≡ no_change + begun spans p
        → let behind = cond t (low + 2147483647 - no_change) low in
        cond s (behind + 2147483649 - no_change) behind + (one t + ended spans p) ≡ no_change + (one s + begun spans p)
    go true true h = omega (arith, filter_few (λ c. eqb (suc c.end) p) spans)
    go true false h = omega arith
    go false true h = omega (arith, filter_few (λ c. eqb (suc c.end) p) spans)
    go false false h = omega arith

-- all changes at a position are those of its place
given_low : (p : ℕ) (bs : List ℕ) (spans : List Span) → 2 * length spans < no_change
    → low_at p (given_places bs spans) ≡ no_change + begun spans p - ended spans p
unfolding given_places
given_low p bs spans light =
    let all : weights (given_places bs spans) < no_change = rw (given_weigh bs spans) light in
    omega (arith, low_append p (map plain_place bs) (flat_map span_places spans) all, site_places_low p bs, span_places_low p spans light)

-- the positions given
site_positions : (bs : List ℕ) → map position (map plain_place bs) ≡ bs
site_positions [] = refl
site_positions (b ∷ bs) = rw (position_at b no_change (omega arith)) (ap (λ (l : List ℕ). b ∷ l) (site_positions bs))

span_positions : (spans : List Span) → flat_map (λ c. map position (span_places c)) spans ≡ flat_map span_breakpoints spans
unfolding flat_map span_places span_breakpoints
span_positions [] = refl
span_positions (c ∷ spans) =
    rw (position_at c.start 2147483649 (omega arith), position_at (suc c.end) 2147483647 (omega arith), span_positions spans)

given_positions : (bs : List ℕ) (spans : List Span) → map position (given_places bs spans) ≡ bs ++ flat_map span_breakpoints spans
unfolding given_places
given_positions bs spans =
    map-append position (map plain_place bs) (flat_map span_places spans)
    ∙ ap (λ (l : List ℕ). l ++ map position (flat_map span_places spans)) (site_positions bs)
    ∙ ap (λ (l : List ℕ). bs ++ l) (map_flat_map position span_places spans ∙ span_positions spans)

-- sorted and joined, what is given are the breakpoints with their changes
pub given_places_lem : (bs : List ℕ) (spans : List Span) → 2 * length spans < no_change
    → places (given_places bs spans) ≡ map (place_of spans) (ascending compare (bs ++ flat_map span_breakpoints spans))
unfolding places place_of
given_places_lem bs spans light =
    map_every (every_all (λ p. ap (place_at p) (given_low p bs spans light)) (ascending compare (map position (given_places bs spans))))
    ∙ ap (λ (l : List ℕ). map (place_of spans) (ascending compare l)) (given_positions bs spans)

-- ---- what a place says

module _ (spans : List Span) (light : 2 * length spans < no_change) (b : ℕ) where
  low_fits : no_change + begun spans b - ended spans b < 4294967296
  unfolding begun
  low_fits = omega (arith, filter_few (λ c. eqb c.start b) spans)

  pub position_of_place : position (place_of spans b) ≡ b
  unfolding place_of
  position_of_place = position_at b (no_change + begun spans b - ended spans b) low_fits

  pub low_of_place : low_part (place_of spans b) ≡ no_change + begun spans b - ended spans b
  unfolding place_of
  low_of_place = low_part_at b (no_change + begun spans b - ended spans b) low_fits

  -- a place fits into 64 bits
  pub place_fits : b < 4294967296 → place_of spans b < 18446744073709551616
  unfolding place_of
  place_fits h = omega (arith, low_fits)

-- ---- going through a window

-- from a position to the first place of its window
pub record PlaceStep (all : List ℕ) (spans : List Span) (past limit e : ℕ) (es : List ℕ) : Type 0 where
  pub next : filter_by (ltb past) all ≡ position e ∷ filter_by (ltb (position e)) all
  pub rest : es ≡ map (place_of spans) (window (position e) limit all)
  pub deeper : depth spans (position e) + no_change ≡ depth spans past + low_part e

module _ {all : List ℕ} (ordered : Pairwise ◌<◌ all) {spans : List Span} (bounded : Bounded all spans)
    (whole : Every (λ (c : Span). c.start ≤ c.end) spans) (light : 2 * length spans < no_change) where
  -- the depth at the next breakpoint, from its place
  pub depth_by_place : (past b : ℕ) (l : List ℕ) → filter_by (ltb past) all ≡ b ∷ l
      → depth spans b + no_change ≡ depth spans past + low_part (place_of spans b)
  unfolding ended
  depth_by_place past b l next =
      omega (arith, low_of_place spans light b, depth_step ordered bounded past b l next whole, filter_few (λ c. eqb (suc c.end) b) spans)

  -- the first place of a window: the next breakpoint, what stands behind it, and the depth there
  pub place_step : (past limit e : ℕ) (es : List ℕ) → map (place_of spans) (window past limit all) ≡ e ∷ es
      → PlaceStep all spans past limit e es
  place_step past limit e es stored = go (window past limit all) refl stored
    where
      go : (w : List ℕ) → window past limit all ≡ w → map (place_of spans) w ≡ e ∷ es → PlaceStep all spans past limit e es
      go [] q k = absurd (omega (arith, ap length k))
      go (b ∷ w) q k =
          let first : place_of spans b ≡ e = cc in
          let behind : map (place_of spans) w ≡ es = cc in
          let at : position e ≡ b = ap (λ (e : ℕ). position e) (sym first) ∙ position_of_place spans light b in
          let (next, rest) = window_step ordered past limit b w q in
          let deep = depth_by_place past b (filter_by (ltb b) all) next in
          record { next = rw at next; rest = rw at (sym behind ∙ ap (map (place_of spans)) rest); deeper = rw (at, ← first) deep }

-- where a window ends, from its places
module _ {all : List ℕ} (ordered : Pairwise ◌<◌ all) (spans : List Span) (light : 2 * length spans < no_change) (past limit : ℕ) where
  -- past the first place it is the same
  pub end_later : (e : ℕ) (es : List ℕ) → map (place_of spans) (window past limit all) ≡ e ∷ es
      → window_end (position e) (window (position e) limit all) ≡ window_end past (window past limit all)
  unfolding window_end
  end_later e es stored = go (window past limit all) refl stored
    where
      go : (w : List ℕ) → window past limit all ≡ w → map (place_of spans) w ≡ e ∷ es
          → window_end (position e) (window (position e) limit all) ≡ window_end past w
      go [] q k = absurd (omega (arith, ap length k))
      go (b ∷ w) q k =
          let first : place_of spans b ≡ e = cc in
          let at : position e ≡ b = ap (λ (e : ℕ). position e) (sym first) ∙ position_of_place spans light b in
          ap (λ (p : ℕ). window_end p (window p limit all)) at ∙ ap (window_end b) (sym (window_step ordered past limit b w q).1)

  -- without places it is where the window begins
  pub end_here : map (place_of spans) (window past limit all) ≡ [] → past ≡ window_end past (window past limit all)
  unfolding window_end
  end_here stored = go (window past limit all) stored
    where
      go : (w : List ℕ) → map (place_of spans) w ≡ [] → past ≡ window_end past w
      go [] k = refl
      go (b ∷ w) k = absurd (omega (arith, ap length k))

-- ---- one filling

-- what is at hand of given places: those in the window, some perhaps joined
pub record Filling (past limit : ℕ) (given content : List ℕ) : Type 0 where
  pub same : places content ≡ places (places_within past limit given)
  pub light : weights content ≤ weights given

-- the position of a given place, in the window
pub record Inside (past limit : ℕ) (given : List ℕ) (p : ℕ) : Type 0 where
  pub is_given : p ∈ map position given
  pub later : past < p
  pub below : p < limit

weights_filter : (q : ℕ → Bool) (es : List ℕ) → weights (filter_by q es) ≤ weights es
unfolding weights filter_by
weights_filter q [] = omega arith
weights_filter q (e ∷ es) = go (q e) (weights_filter q es)
  where
    go : (b : Bool) → weights (filter_by q es) ≤ weights es → weights (cond b (e ∷ filter_by q es) (filter_by q es)) ≤ weight e + weights es
    go true h = omega arith
    go false h = omega arith

within_light : (past limit : ℕ) (es : List ℕ) → weights (places_within past limit es) ≤ weights es
within_light past limit es = weights_filter (λ e. within past limit (position e)) es

-- more behind the same
places_more : (l m r : List ℕ) → weights (l ++ r) < no_change → weights (m ++ r) < no_change → places l ≡ places m
    → places (l ++ r) ≡ places (m ++ r)
places_more l m r h k e = sym (places_again l r h) ∙ ap (λ (o : List ℕ). places (o ++ r)) e ∙ places_again m r k

module _ (past limit : ℕ) where
  pub filling_start : Filling past limit [] []
  filling_start = unfold filter_by in record { same = refl; light = omega arith }

  -- more places, of which those in the window are stored
  pub filling_more : {given content : List ℕ} → Filling past limit given content → (es : List ℕ) → weights (given ++ es) < no_change
      → Filling past limit (given ++ es) (content ++ places_within past limit es)
  filling_more {given} {content} f es h =
      let kept = places_within past limit in
      let all = weights_append given es in
      let few = within_light past limit es in
      let light : weights (content ++ kept es) ≤ weights (given ++ es) = omega (arith, weights_append content (kept es), f.light) in
      let light_kept : weights (kept given ++ kept es) < no_change =
      omega (arith, weights_append (kept given) (kept es), within_light past limit given) in
      let same : places (content ++ kept es) ≡ places (kept (given ++ es)) =
      places_more content (kept given) (kept es) (omega arith) light_kept f.same
      ∙ ap places (sym (filter_append (λ e. within past limit (position e)) given es)) in
      record { same = same; light = light }

  module _ {given content : List ℕ} (f : Filling past limit given content) (e : ℕ) (h : weights (given ++ e ∷ []) < no_change) where
    -- one place of the window
    pub filling_in : within past limit (position e) ≡ true → Filling past limit (given ++ e ∷ []) (content ++ e ∷ [])
    unfolding filter_by
    filling_in k =
        subst (λ (l : List ℕ). Filling past limit (given ++ e ∷ []) (content ++ l))
        (filter_yes (λ e. within past limit (position e)) e [] k) (filling_more f (e ∷ []) h)

    -- one outside it
    pub filling_out : within past limit (position e) ≡ false → Filling past limit (given ++ e ∷ []) content
    unfolding filter_by
    filling_out k =
        subst (λ (l : List ℕ). Filling past limit (given ++ e ∷ []) l)
        (ap (λ (l : List ℕ). content ++ l) (filter_no (λ e. within past limit (position e)) e [] k) ∙ append-nil content)
        (filling_more f (e ∷ []) h)

-- the first n of a list are those below the one at n, where f ascends along it
take_below : (f : ℕ → ℕ) (l : List ℕ) (n : ℕ) → Pairwise ◌<◌ (map f l) → n < length l
    → take n l ≡ filter_by (λ e. ltb (f e) (f (get_or l n 0))) l
take_below f [] n up h = absurd (omega arith)
take_below f (x ∷ l) zero (before_all k ks) h =
    sym (filter_none (λ e. ltb (f e) (f x)) (x ∷ l) (λ e m.
    cons_cases m (λ q. le-ltb (f e) (f x) (rw q (omega arith)))
    (λ n. let b = every_member n (every_of_map_back f l k) in le-ltb (f e) (f x) (omega arith))))
take_below f (x ∷ l) (suc n) (before_all k ks) h =
    let at = get_or l n 0 in
    let less : f x < f at = every_at n 0 (omega arith) (every_of_map_back f l k) in
    rw (filter_yes (λ e. ltb (f e) (f at)) x l (lt-ltb (f x) (f at) less))
    (ap (λ (o : List ℕ). x ∷ o) (take_below f l n ks (omega arith)))

module _ (past limit : ℕ) {given content : List ℕ} (f : Filling past limit given content) (h : weights given < no_change) where
  light : weights content < no_change
  light = omega (arith, f.light)

  -- at the end, or on the way: sorted and joined they are the places of the window
  pub filling_done : join_places (sorted content) ≡ places (places_within past limit given)
  filling_done = join_sorted content light ∙ f.same

  pub filling_joined : Filling past limit given (join_places (sorted content))
  filling_joined =
      rw (join_sorted content light)
      (record { same = places_places content light ∙ f.same; light = omega (arith, weights_places content light, f.light) })

  same_positions : ascending compare (map position content) ≡ ascending compare (map position (places_within past limit given))
  same_positions =
      sym (places_positions content light) ∙ ap (map position) f.same
      ∙ places_positions (places_within past limit given) (omega (arith, within_light past limit given))

  -- every place at hand has the position of a given one, in the window
  pub filling_inside : Every (λ e. Inside past limit given (position e)) content
  filling_inside = every_of_map_back position {P = Inside past limit given} content (every_of (map position content) (λ p m.
      let kept = places_within past limit given in
      let there : p ∈ ascending compare (map position kept) =
      subst (λ (l : List ℕ). p ∈ l) same_positions (ascending_member compare compare_eq _ m) in
      let (e, n, same) = member_map position kept (member_ascending compare _ there) in
      let (k, inside) = member_filter (λ e. within past limit (position e)) given n in
      let (a, b) = both_of (ltb past (position e)) (ltb (position e) limit) inside in
      rw same (record { is_given = Memᴰ.map position k; later = ltb-true past (position e) a; below = ltb-true (position e) limit b })))

-- those of a window that are below a lower limit
within_lower : (past limit lower : ℕ) → lower ≤ limit → (es : List ℕ)
    → filter_by (λ e. ltb (position e) lower) (places_within past limit es) ≡ places_within past lower es
within_lower past limit lower h es =
    sym (filter_both (λ e. within past limit (position e)) (λ e. ltb (position e) lower) es)
    ∙ filter_same _ (λ e. within past lower (position e)) es (λ e m.
    go (ltb past (position e)) (ltb (position e) limit) (ltb (position e) lower)
    (λ k. let b = ltb-true (position e) lower k in lt-ltb (position e) limit (omega arith)))
  where
    go : (a b c : Bool) → (c ≡ true → b ≡ true) → a && b && c ≡ a && c
    go false b c k = refl
    go true true c k = refl
    go true false true k = k refl
    go true false false k = refl

-- the places from n on are dropped: their least position is the limit from then on
module _ (past limit : ℕ) {given content : List ℕ} (f : Filling past limit given content) (h : weights given < no_change)
    (n : ℕ) (more : n < length (join_places (sorted content))) where
  pub lower_inside : Inside past limit given (position (get_or (join_places (sorted content)) n 0))
  lower_inside = every_at n 0 more (filling_inside past limit (filling_joined past limit f h) h)

  pub filling_dropped : let stored = join_places (sorted content) in Filling past (position (get_or stored n 0)) given (take n stored)
  filling_dropped =
      let stored = join_places (sorted content) in
      let lower = position (get_or stored n 0) in
      let light_kept : weights (places_within past lower given) ≤ weights given =
      within_light past lower given in
      let left : take n stored ≡ places (places_within past lower given) =
      take_below position stored n (join_ascends content (omega (arith, f.light))) more
      ∙ ap (filter_by (λ e. ltb (position e) lower)) (filling_done past limit f h)
      ∙ places_filter (λ p. ltb p lower) (places_within past limit given) (omega (arith, within_light past limit given))
      ∙ ap places (within_lower past limit lower (omega (arith, lower_inside.below)) given) in
      rw left (record { same = places_places _ (omega arith); light = omega (arith, weights_places (places_within past lower given) (omega arith)) })

-- below a lower limit, what is at hand still stands for what was given
filling_lower : (past limit lower : ℕ) {given content : List ℕ} → lower ≤ limit → weights given < no_change → Filling past limit given content
    → places (places_within past lower content) ≡ places (places_within past lower given)
filling_lower past limit lower {given} {content} h light f =
    sym (places_filter (within past lower) content (omega (arith, f.light)))
    ∙ ap (places_within past lower) f.same
    ∙ places_filter (within past lower) (places_within past limit given) (omega (arith, within_light past limit given))
    ∙ ap places (filter_within (λ e. within past lower (position e)) (λ e. within past limit (position e)) given (λ e k.
    let (a, b) = both_of (ltb past (position e)) (ltb (position e) lower) k in
    let less = ltb-true (position e) lower b in
    both a (lt-ltb (position e) limit (omega arith))))

-- one filling after another: what it found at hand stands for what was given before
pub filling_then : (past limit lower : ℕ) {given content content' : List ℕ} (es : List ℕ) → lower ≤ limit → weights (given ++ es) < no_change
    → Filling past limit given content → Filling past lower (content ++ es) content' → Filling past lower (given ++ es) content'
filling_then past limit lower {given} {content} {content'} es h light f g =
    let test : ℕ → Bool = λ e. within past lower (position e) in
    let kept = places_within past lower in
    let all = weights_append given es in
    let stored = weights_append content es in
    let few = within_light past lower es in
    let first : weights (kept content ++ kept es) < no_change =
    omega (arith, weights_append (kept content) (kept es), within_light past lower content, f.light) in
    let second : weights (kept given ++ kept es) < no_change =
    omega (arith, weights_append (kept given) (kept es), within_light past lower given) in
    let same : places content' ≡ places (kept (given ++ es)) =
    g.same ∙ ap places (filter_append test content es)
    ∙ places_more (kept content) (kept given) (kept es) first second (filling_lower past limit lower h (omega arith) f)
    ∙ ap places (sym (filter_append test given es)) in
    record { same = same; light = omega (arith, f.light, g.light) }

-- at the end
pub filled : (past limit : ℕ) (bs : List ℕ) (spans : List Span) → 2 * length spans < no_change → {content : List ℕ}
    → Filling past limit (given_places bs spans) content
    → join_places (sorted content) ≡ map (place_of spans) (window past limit (ascending compare (bs ++ flat_map span_breakpoints spans)))
unfolding window
filled past limit bs spans light f =
    let all = ascending compare (bs ++ flat_map span_breakpoints spans) in
    let light_given : weights (given_places bs spans) < no_change = rw (given_weigh bs spans) light in
    filling_done past limit f light_given
    ∙ sym (places_filter (within past limit) (given_places bs spans) light_given)
    ∙ ap (places_within past limit) (given_places_lem bs spans light)
    ∙ filter_by_map (place_of spans) (λ e. within past limit (position e)) all
    ∙ ap (map (place_of spans)) (filter_same (λ b. within past limit (position (place_of spans b))) (within past limit) all
    (λ b m. ap (within past limit) (position_of_place spans light b)))

-- ---- places that are at hand

-- a position of places, in the window
kept_position : (past limit : ℕ) (es : List ℕ) {p : ℕ} → p ∈ map position es → within past limit p ≡ true
    → p ∈ map position (places_within past limit es)
kept_position past limit es {p} m k =
    let (e, n, same) = member_map position es m in
    let inside : within past limit (position e) ≡ true = subst (λ (q : ℕ). within past limit q ≡ true) same k in
    subst (λ (q : ℕ). q ∈ map position (places_within past limit es)) (sym same)
    (Memᴰ.map position (filter_member (λ e. within past limit (position e)) es n inside))

module _ (past limit : ℕ) where
  -- places in the window stand for themselves
  pub filling_self : {content : List ℕ} → Every (λ e. within past limit (position e) ≡ true) content → Filling past limit content content
  filling_self {content} h = record {
    same = ap places (sym (filter_all (λ e. within past limit (position e)) content (λ e m. every_member m h)));
    light = omega arith;
  }

  -- a position that was given is at hand, if it is in the window
  pub filling_keeps : {given content : List ℕ} → Filling past limit given content → weights given < no_change
      → {p : ℕ} → p ∈ map position given → within past limit p ≡ true → p ∈ map position content
  filling_keeps {given} {content} f h {p} m k =
      member_ascending compare _ (subst (λ (l : List ℕ). p ∈ l) (sym (same_positions past limit f h))
      (ascending_member compare compare_eq _ (kept_position past limit given m k)))

-- plain places weigh nothing and change no depth
pub plain_weigh : (l ps : List ℕ) → weights (l ++ map plain_place ps) ≡ weights l
plain_weigh l ps = omega (arith, weights_append l (map plain_place ps), site_places_weigh ps)

plain_low : (p : ℕ) (l ps : List ℕ) → weights l < no_change → low_at p (l ++ map plain_place ps) ≡ low_at p l
plain_low p l ps h =
    let light : weights (l ++ map plain_place ps) < no_change = rw (plain_weigh l ps) h in
    omega (arith, low_append p l (map plain_place ps) light, site_places_low p ps)

plain_positions : (l ps : List ℕ) → map position (l ++ map plain_place ps) ≡ map position l ++ ps
plain_positions l ps =
    map-append position l (map plain_place ps) ∙ ap (λ (m : List ℕ). map position l ++ m) (site_positions ps)

-- A plain place may be left out if it is outside the window, or its position was given.
module _ (past limit : ℕ) (given ps qs : List ℕ) (fewer : (p : ℕ) → p ∈ ps → p ∈ qs)
    (known : (q : ℕ) → q ∈ qs → within past limit q ≡ true → (q ∈ ps) ⊎ (q ∈ map position given)) (light : weights given < no_change) where
  kept : List ℕ
  kept = places_within past limit given

  plain_kept : (rs : List ℕ) → places_within past limit (given ++ map plain_place rs) ≡ kept ++ map plain_place (window past limit rs)
  unfolding window kept
  plain_kept rs =
      filter_append (λ e. within past limit (position e)) given (map plain_place rs)
      ∙ ap (λ (l : List ℕ). kept ++ l) (filter_by_map plain_place (λ e. within past limit (position e)) rs
      ∙ ap (map plain_place) (filter_same _ (within past limit) rs (λ r m. ap (within past limit) (position_at r no_change (omega arith)))))

  -- the positions in the window are the same
  position_cases : {R : Type 0} (rs : List ℕ) {p : ℕ} → p ∈ map position (kept ++ map plain_place (window past limit rs))
      → (p ∈ map position kept → R) → (p ∈ rs → within past limit p ≡ true → R) → R
  unfolding window
  position_cases rs {p} m f g =
      ⊎_elim f (λ (n : p ∈ window past limit rs). let (k, inside) = member_filter (within past limit) rs n in g k inside)
      (Memᴰ.append_cases (map position kept) (subst (λ (l : List ℕ). p ∈ l) (plain_positions kept (window past limit rs)) m))

  among : (rs : List ℕ) {p : ℕ} → p ∈ map position kept → p ∈ map position (kept ++ map plain_place (window past limit rs))
  among rs m = rw (plain_positions kept (window past limit rs)) (Memᴰ.append_left _ m)

  also_given : (rs : List ℕ) {p : ℕ} → p ∈ rs → within past limit p ≡ true → p ∈ map position (kept ++ map plain_place (window past limit rs))
  unfolding window
  also_given rs m k = rw (plain_positions kept (window past limit rs)) (Memᴰ.append_right (map position kept) (filter_member (within past limit) rs m k))

  kept_light : weights kept < no_change
  unfolding kept
  kept_light = omega (arith, within_light past limit given)

  pub filling_plain : {content : List ℕ} → Filling past limit (given ++ map plain_place ps) content
      → Filling past limit (given ++ map plain_place qs) content
  unfolding kept
  filling_plain f = record {
    same = f.same ∙ ap places (plain_kept ps)
        ∙ places_same (kept ++ map plain_place (window past limit ps)) (kept ++ map plain_place (window past limit qs))
        (λ p m. position_cases ps m (among qs) (λ n. also_given qs (fewer p n)))
        (λ p m. position_cases qs m (among ps) (λ n k.
        ⊎_elim (λ (o : p ∈ ps). also_given ps o k) (λ (o : p ∈ map position given). among ps (kept_position past limit given o k)) (known p n k)))
        (λ p. plain_low p kept (window past limit ps) kept_light ∙ sym (plain_low p kept (window past limit qs) kept_light))
        ∙ ap places (sym (plain_kept qs));
    light = omega (arith, f.light, plain_weigh given ps, plain_weigh given qs);
  }

-- ---- an example

-- a block from 10 to 12, and two clip spans: from 11 to 12, and from 13 to 20
example_spans : List Span
example_spans = record { contig = []; start = 11; end = 12 } ∷ record { contig = []; start = 13; end = 20 } ∷ []

example_joined : join_places (sorted (given_places (10 ∷ 13 ∷ []) example_spans))
    ≡ place_at 10 2147483648 ∷ place_at 11 2147483649 ∷ place_at 13 2147483648 ∷ place_at 21 2147483647 ∷ []
unfolding join_places join_from sorted insert given_places span_places flat_map example_spans
example_joined = refl

example_depths : map (depth example_spans) (10 ∷ 11 ∷ 13 ∷ 21 ∷ []) ≡ 0 ∷ 1 ∷ 1 ∷ 0 ∷ []
unfolding depth covers filter_by example_spans
example_depths = refl

example_window : map (place_of example_spans) (window 10 21 (ascending compare ((10 ∷ 13 ∷ []) ++ flat_map span_breakpoints example_spans)))
    ≡ place_at 11 2147483649 ∷ place_at 13 2147483648 ∷ []
unfolding place_of begun ended window filter_by ascending insert_new by_order example_spans flat_map span_breakpoints
example_window = refl
