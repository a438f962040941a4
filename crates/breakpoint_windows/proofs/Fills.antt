-- Fillings one after the other, with the limit: what each function of a filling shows, and what its caller makes of it.
use Prim.Native.Nat.{◌+◌, ◌/◌, ◌<◌, ◌≤◌, ℕ}
use borrow.Author.Tests.{leb-false, leb-true, lt-ltb, ltb-true}
use lib.Dec.{leb}
use lib.ListN.{get_or, length, length-append, length-map, length-take, take}
use mathlib.Core.Bool.{Bool, cond, false, true}
use mathlib.Core.List.Memᴰ
use mathlib.Core.List.{List, [], ◌++◌, ◌∷◌, map}
use mathlib.Core.Logic.{◌⊎◌, inl, inr, ⊎_elim}
use mathlib.Core.Path.{◌∙◌, ◌≡◌, refl, subst, sym}
use native.Mathlib.Omega.{arith}
use Rattle.laws.proofs.Every.{Every, every_map, every_member}
use Rattle.laws.proofs.Fillings.{Filling, Inside, filling_dropped, filling_in, filling_inside, filling_joined, filling_keeps, filling_out, filling_plain, filling_self, filling_then, lower_inside, plain_place}
use Rattle.laws.proofs.Members.{◌∈◌, member_map, member_some, some_member}
use Rattle.laws.proofs.Places.{join_places, no_change, position, weights, weights_append}
use Rattle.laws.proofs.Sorted.{sorted}
use Rattle.laws.proofs.Tests.{both}
use Rattle.laws.proofs.Windows.{within}
use Rattle.breakpoint_windows.specs.Fillings.{Fills, leaves_room, limit_made, room_made}

-- a position that is given stays so with more places
inside_more : {past limit p : ℕ} {given given' : List ℕ} → ((e : ℕ) → e ∈ given → e ∈ given') → Inside past limit given p → Inside past limit given' p
inside_more {given = given} {given' = given'} f i =
    let (e, m, same) = member_map position given i.is_given in
    record {
      is_given = subst (λ (q : ℕ). q ∈ map position given') (sym same) (Memᴰ.map position (f e m));
      later = i.later;
      below = i.below;
    }

inside_within : {past limit p : ℕ} {given : List ℕ} → Inside past limit given p → within past limit p ≡ true
inside_within {past} {limit} {p} i = both (lt-ltb past p i.later) (lt-ltb p limit i.below)

-- ---- one filling

module _ {past limit : ℕ} {given : List ℕ} {lower : ℕ} {content : List ℕ} (f : Fills past limit given lower content) where
  -- the limit does not rise
  pub fills_lower : lower ≤ limit
  fills_lower =
      ⊎_elim (λ (e : lower ≡ limit). omega arith)
      (λ (d : (0 < length content) × Inside past limit given lower). omega (arith, d.1.below))
      f.limited

  pub fills_inside : weights given < no_change → Every (λ e. within past lower (position e) ≡ true) content
  fills_inside light = every_map (λ e. inside_within) (filling_inside past lower f.filling light)

  -- one place more: in the window it is stored
  module _ (e : ℕ) (light : weights (given ++ e ∷ []) < no_change) where
    one_more : (content' : List ℕ) → length content ≤ length content'
        → (lower ≡ limit) ⊎ ((0 < length content') × Inside past limit (given ++ e ∷ []) lower)
    one_more content' h = ⊎_elim (λ (s : lower ≡ limit). inl s)
        (λ (d : (0 < length content) × Inside past limit given lower).
        inr (omega (arith, d.0), inside_more (λ a m. Memᴰ.append_left (e ∷ []) m) d.1))
        f.limited

    pub fills_in : within past lower (position e) ≡ true → Fills past limit (given ++ e ∷ []) lower (content ++ e ∷ [])
    fills_in k = record {
      filling = filling_in past lower f.filling e light k;
      limited = one_more (content ++ e ∷ []) (omega (arith, length-append content (e ∷ [])));
    }

    pub fills_out : within past lower (position e) ≡ false → Fills past limit (given ++ e ∷ []) lower content
    fills_out k = record { filling = filling_out past lower f.filling e light k; limited = one_more content (omega arith) }

-- places in the window stand for themselves
pub fills_self : (past limit : ℕ) {content : List ℕ} → Every (λ e. within past limit (position e) ≡ true) content → Fills past limit content limit content
fills_self past limit h = record { filling = filling_self past limit h; limited = inl refl }

-- ---- one filling after another

-- where a place is given in the window, one is at hand
some_kept : (past limit : ℕ) {given content : List ℕ} → Filling past limit given content → weights given < no_change
    → {e : ℕ} → e ∈ given → within past limit (position e) ≡ true → 0 < length content
some_kept past limit {given} {content} f light {e} m k =
    let there = filling_keeps past limit f light (Memᴰ.map position m) k in
    omega (arith, ltb-true 0 (length (map position content)) (member_some (map position content) there), length-map content position)

module _ (past limit : ℕ) {given : List ℕ} {lower : ℕ} {content : List ℕ} {lower' : ℕ} {content' : List ℕ} (es : List ℕ)
    (light : weights (given ++ es) < no_change) (f : Fills past limit given lower content) (g : Fills past lower (content ++ es) lower' content') where
  light_given : weights given < no_change
  light_given = omega (arith, weights_append given es)

  light_content : weights (content ++ es) < no_change
  light_content = omega (arith, weights_append given es, weights_append content es, f.filling.light)

  -- what the second found at hand was given
  was_given : {p : ℕ} → p ∈ map position (content ++ es) → p ∈ map position (given ++ es)
  was_given {p} m =
      let (e, n, same) = member_map position (content ++ es) m in
      subst (λ (q : ℕ). q ∈ map position (given ++ es)) (sym same) (⊎_elim
      (λ (k : e ∈ content).
      (inside_more {given = given} (λ a o. Memᴰ.append_left es o) (every_member k (filling_inside past lower f.filling light_given))).is_given)
      (λ (k : e ∈ es). Memᴰ.map position (Memᴰ.append_right given k))
      (Memᴰ.append_cases content n))

  still_some : lower' ≡ lower → 0 < length content → 0 < length content'
  still_some same h =
      let (e, m) = some_member content (lt-ltb 0 (length content) h) in
      some_kept past lower' g.filling light_content (Memᴰ.append_left es m)
      (rw same (every_member m (fills_inside f light_given)))

  pub fills_then : Fills past limit (given ++ es) lower' content'
  fills_then = record { filling = filling_then past lower lower' es (fills_lower g) light f.filling g.filling; limited = go f.limited g.limited }
    where
      Limited : ℕ → List ℕ → ℕ → List ℕ → Type 0
      Limited limit given lower content = (lower ≡ limit) ⊎ ((0 < length content) × Inside past limit given lower)

      go : Limited limit given lower content → Limited lower (content ++ es) lower' content' → Limited limit (given ++ es) lower' content'
      go (inl a) (inl b) = inl (b ∙ a)
      go (inr (h, i)) (inl b) = inr (still_some b h, rw b (inside_more (λ a m. Memᴰ.append_left es m) i))
      go a (inr (h, i)) = inr (h, record { is_given = was_given i.is_given; later = i.later; below = omega (arith, i.below, fills_lower f) })

-- ---- plain places

-- a plain place may be left out if it is outside the window, or its position was given
pub fills_plain : (past limit : ℕ) (given ps qs : List ℕ) {lower : ℕ} {content : List ℕ} → ((p : ℕ) → p ∈ ps → p ∈ qs)
    → ((q : ℕ) → q ∈ qs → within past lower q ≡ true → (q ∈ ps) ⊎ (q ∈ map position given)) → weights given < no_change
    → Fills past limit (given ++ map plain_place ps) lower content → Fills past limit (given ++ map plain_place qs) lower content
fills_plain past limit given ps qs {lower} {content} fewer known light f = record {
  filling = filling_plain past lower given ps qs fewer known light f.filling;
  limited = ⊎_elim (λ (s : lower ≡ limit). inl s)
      (λ (d : (0 < length content) × Inside past limit (given ++ map plain_place ps) lower). inr (d.0, inside_more more d.1))
      f.limited;
}
  where
    more : (e : ℕ) → e ∈ given ++ map plain_place ps → e ∈ given ++ map plain_place qs
    more e m =
        ⊎_elim (λ (n : e ∈ given). Memᴰ.append_left (map plain_place qs) n)
        (λ (n : e ∈ map plain_place ps).
        let (p, k, same) = member_map plain_place ps n in
        Memᴰ.append_right given (subst (λ (a : ℕ). a ∈ map plain_place qs) (sym same) (Memᴰ.map plain_place (fewer p k))))
        (Memᴰ.append_cases given m)

-- ---- room made

module _ (places : List ℕ) (two : 2 ≤ length places) where
  module _ (stored : List ℕ) where
    abbrev enough : Bool
    enough = leb (length stored) (length places / 2 + length places / 4)

    few_left : (b : Bool) → enough ≡ b → length (cond b stored (take (length places / 2) stored)) < length places
    few_left true e = let k = leb-true (length stored) (length places / 2 + length places / 4) e in omega arith
    few_left false e = omega (arith, length-take (length places / 2) stored)

    more_than_half : enough ≡ false → length places / 2 < length stored
    more_than_half e = let k = leb-false (length stored) (length places / 2 + length places / 4) e in omega arith

  -- some place is free then
  pub room_left : length (room_made places) < length places
  unfolding room_made leaves_room
  room_left = few_left (join_places (sorted places)) (leaves_room places) refl

  -- and what stays stands for all
  pub room_fills : (past limit : ℕ) → weights places < no_change → Every (λ e. within past limit (position e) ≡ true) places
      → Fills past limit places (limit_made places limit) (room_made places)
  unfolding room_made limit_made leaves_room
  room_fills past limit light inside = go (leaves_room places) refl
    where
      self : Filling past limit places places
      self = filling_self past limit inside

      go : (b : Bool) → enough (join_places (sorted places)) ≡ b
          → Fills past limit places (cond b limit (position (get_or (join_places (sorted places)) (length places / 2) 0)))
          (cond b (join_places (sorted places)) (take (length places / 2) (join_places (sorted places))))
      go true e = record { filling = filling_joined past limit self light; limited = inl refl }
      go false e =
          let more = more_than_half (join_places (sorted places)) e in
          record {
            filling = filling_dropped past limit self light (length places / 2) more;
            limited = inr (
              omega (arith, length-take (length places / 2) (join_places (sorted places))),
              lower_inside past limit self light (length places / 2) more,
            );
          }
