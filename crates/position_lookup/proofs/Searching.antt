-- The places of a text one after the other: the answers so far stand in front of those that are left.
use Prim.Native.Nat.{◌+◌, ◌<◌, ◌≤◌, ℕ}
use lib.Dec.{ltb}
use lib.ListN.{length, length-append, length-map, set}
use lib.Seq.{sets}
use mathlib.Core.Bool.{Bool, ◌&&◌, false, true}
use mathlib.Core.List.{List, [], ◌++◌, ◌∷◌, append_assoc, append-nil, map-append}
use mathlib.Core.Option.{Option, get_or}
use mathlib.Core.Path.{◌∙◌, ◌≡◌, ap, refl, sym}
use native.Mathlib.Nat.{zero-add}
use native.Mathlib.Omega.{arith}
use Rattle.std.specs.Option.{unwrap_or}
use Rattle.std.specs.Prelude as std
use Rattle.answers.specs.Options.{option_of}
use Rattle.asked_places.specs.Asked.{PairTo, pair_lines, place_in}
use Rattle.asked_places.specs.declared.Pair.{Pair}
use Rattle.definitions.specs.Checked.{Checked, ◌>>=◌, accepted, refused}
use Rattle.definitions.specs.LookUp.{LookedUp, Place, follows, found_numbers, max_places, no_record, place_of, places_of}
use Rattle.definitions.specs.Records.{Record}
use Rattle.kv_text.proofs.Groups.{FromHere, group_accepted, group_refused, groups_ended}
use Rattle.kv_write.proofs.Laying.{sets_append}
use Rattle.laws.proofs.Checked.{accepted_same, after_then, not_refused, not_required, required, then, then_refused}
use Rattle.laws.proofs.LookUp.{places_few}
use Rattle.list_reader.specs.RecordGroups.{PreviousOf}
use Rattle.list_walk.specs.Walk.{groups_at, start_of}
use Rattle.list_walk.specs.declared.ListHeader.{ListHeader}
use Rattle.position_lookup.specs.Found.{FirstOf, PairsFound, PairsReady, ReachedAt, Stands, StandsAt, search_of}
use Rattle.position_lookup.specs.Search.{held_by, look_on, read_until}
use Rattle.position_lookup.specs.declared.Search.{Search}

-- ---- the pairs of the text

-- the places from an offset on, behind those before, are these
pub record LeftAt (asked : List ℕ) (before : List Place) (at : ℕ) (left : List Place) : Type 0 where
  pub all : FromHere 2 (omega arith) place_of before asked at ≡ accepted left

module _ {asked : List ℕ} {before left : List Place} {at : ℕ} (l : LeftAt asked before at left) where
  no_more : length asked ≤ at → left ≡ []
  no_more h = sym (accepted_same (sym (groups_ended 2 (omega arith) place_of before asked at h) ∙ l.all))

  none_wrong : {R : Type 0} → at < length asked → place_of before (pair_lines asked at) ≡ refused 1 → R
  none_wrong h e = not_refused (sym (group_refused 2 (omega arith) place_of before asked at 1 h e) ∙ l.all)

  record NextPlace (p : Pair) : Type 0 where
    rest : List Place
    first : left ≡ place_in asked p ∷ rest
    later : LeftAt asked (place_in asked p ∷ before) p.next rest

  next_place : {p : Pair} → at < length asked → PairTo asked at p → NextPlace p
  next_place {p} h to = go (ltb (length before) max_places && follows before (place_in asked p)) refl
    where
      go : (t : Bool) → ltb (length before) max_places && follows before (place_in asked p) ≡ t → NextPlace p
      go false e =
          not_refused (sym (group_refused 2 (omega arith) place_of before asked at 18 h (to.value before ∙ not_required 18 _ _ e)) ∙ l.all)
      go true e =
          let read = to.value before ∙ required 18 _ _ e refl in
          after_then _ _ (sym (group_accepted 2 (omega arith) place_of before asked at (place_in asked p) p.next h to.behind read) ∙ l.all)
          λ rest later same. record { rest = rest; first = sym (accepted_same same); later = record { all = later } }

-- ---- the answers

-- these answers stand in front
unfoldable pub in_front : List (Option ℕ) → Checked LookedUp → Checked LookedUp
in_front done m = m >>= λ l. accepted (record { found = done ++ l.found; groups = l.groups })

front_none : (m : Checked LookedUp) → m ≡ in_front [] m
unfolding in_front ◌>>=◌
front_none (refused n) = refl
front_none (accepted l) = refl

front_next : (done : List (Option ℕ)) (o : Option ℕ) (m : Checked LookedUp)
    → in_front done (m >>= λ l. accepted (record { found = o ∷ l.found; groups = l.groups })) ≡ in_front (done ++ (o ∷ [])) m
unfolding in_front ◌>>=◌
front_next done o (refused n) = refl
front_next done o (accepted l) = rw (append_assoc done (o ∷ []) l.found)

-- the number of an answer
pub number_is : (o : std.Option ℕ) → unwrap_or o no_record ≡ get_or (option_of o) no_record
number_is std.None = refl
number_is (std.Some n) = refl

-- the number of one more answer is stored behind the others
stored_next : (d : List ℕ) (done : List (Option ℕ)) (o : Option ℕ) {found : List ℕ} {count number : ℕ}
    → found ≡ sets d 0 (found_numbers done) → count ≡ length done → number ≡ get_or o no_record
    → set found count number ≡ sets d 0 (found_numbers (done ++ (o ∷ [])))
unfolding found_numbers
stored_next d done o e k v =
    let n : 0 + length (found_numbers done) ≡ length done = zero-add _ ∙ length-map done _ in
    let both : sets d 0 (found_numbers (done ++ (o ∷ []))) ≡ set (sets d 0 (found_numbers done)) (length done) (get_or o no_record) =
    ap (sets d 0) (map-append (λ (o : Option ℕ). get_or o no_record) done (o ∷ []))
    ∙ sets_append d 0 (found_numbers done) (get_or o no_record ∷ []) ∙ rw n in
    rw (e, k, v) (sym both)

module _ (s : List ℕ) (h : ListHeader) (asked found₀ : List ℕ) (ready : PairsReady asked h) where
  -- the places up to an offset are answered, the numbers stand in the table, and the search stands behind what was read for them
  pub record Searching (w : Search) (at count : ℕ) (found : List ℕ) : Type 0 where
    pub before : List Place
    pub left : List Place
    pub left_at : LeftAt asked before at left
    pub done : List (Option ℕ)
    pub count_is : count ≡ length done
    pub few : length done + length left ≤ max_places
    pub stored : found ≡ sets found₀ 0 (found_numbers done)
    pub read : List Record
    pub stands : StandsAt s read w
    pub value : search_of s h ready.places
        ≡ in_front done (look_on h.samples h.records left (record { read = read; left = groups_at s h w.cursor }))

  pub searching_start : (w : Search) → w.cursor ≡ start_of h → Searching w 0 0 found₀
  unfolding places_of PreviousOf FirstOf found_numbers
  searching_start w e = record {
    before = [];
    left = ready.places;
    left_at = record { all = ready.value };
    done = [];
    count_is = refl;
    few = omega (arith, places_few asked ready.places ready.value);
    stored = refl;
    read = [];
    stands = record { cursor = rw e (record { read = refl; previous = refl }); first = tt };
    value = rw e (front_none _);
  }

  module _ {w : Search} {at count : ℕ} {found : List ℕ} (g : Searching w at count found) where
    -- what is left is these places
    left_for : (places : List Place) → g.left ≡ places
        → search_of s h ready.places
        ≡ in_front g.done (look_on h.samples h.records places (record { read = g.read; left = groups_at s h w.cursor }))
    left_for places e =
        g.value
        ∙ ap (λ (l : List Place). in_front g.done (look_on h.samples h.records l (record { read = g.read; left = groups_at s h w.cursor }))) e

    pub searching_end : {groups : ℕ} → length asked ≤ at → groups ≡ w.cursor.read → PairsFound (search_of s h ready.places) found₀ found groups
    unfolding look_on in_front ◌>>=◌
    searching_end past e = record {
      answer = record { found = g.done; groups = length g.read };
      value = left_for [] (no_more g.left_at past) ∙ rw (append-nil g.done);
      groups_are = e ∙ g.stands.cursor.read;
      stored = g.stored;
    }

    module _ (more : at < length asked) where
      pub searching_wrong : {R : Type 0} → ((before : List Place) → place_of before (pair_lines asked at) ≡ refused 1) → R
      searching_wrong e = none_wrong g.left_at more (e g.before)

      module _ {p : Pair} (to : PairTo asked at p) where
        the_next : NextPlace g.left_at p
        the_next = next_place g.left_at more to

        pub searching_few : count < max_places
        searching_few = omega (arith, g.count_is, g.few, ap length the_next.first)

        pub searching_refused : {row : ℕ}
            → ((before : List Record) → StandsAt s before w
            → read_until h.samples h.records (place_in asked p) before (groups_at s h w.cursor) ≡ refused row)
            → search_of s h ready.places ≡ refused row
        unfolding look_on in_front ◌>>=◌
        searching_refused e =
            left_for (place_in asked p ∷ the_next.rest) the_next.first ∙ ap (in_front g.done) (then_refused _ _ (e g.read g.stands))

        module _ {w' : Search} (reached : (before : List Record) → StandsAt s before w → ReachedAt s h w (place_in asked p) before w') where
          abbrev now_at : ReachedAt s h w (place_in asked p) g.read w'
          now_at = reached g.read g.stands

          pub searching_stands : Stands s w'
          searching_stands = record { before = now_at.read; at = now_at.at }

          pub searching_next : {number : ℕ}
              → ((stands : Stands s w') → number ≡ get_or (held_by (place_in asked p) stands.before) no_record)
              → Searching w' p.next (count + 1) (set found count number)
          unfolding look_on
          searching_next e = record {
            before = place_in asked p ∷ g.before;
            left = the_next.rest;
            left_at = the_next.later;
            done = g.done ++ (held_by (place_in asked p) now_at.read ∷ []);
            count_is = simp length-append (omega (arith, g.count_is));
            few = simp length-append (omega (arith, g.few, ap length the_next.first));
            stored = stored_next found₀ g.done (held_by (place_in asked p) now_at.read) g.stored g.count_is
                (e (record { before = now_at.read; at = now_at.at }));
            read = now_at.read;
            stands = now_at.at;
            value =
                left_for (place_in asked p ∷ the_next.rest) the_next.first
                ∙ ap (in_front g.done) (then _ _ now_at.value refl)
                ∙ front_next g.done (held_by (place_in asked p) now_at.read) _;
          }
