-- The two lines of a pair, and the pairs of a text one after the other.
use Prim.Native.Nat.{Ordering, ◌+◌, ◌<◌, ◌≤◌, compare, ℕ}
use borrow.Author.Tests.{le-leb, le-ltb, lt-leb, lt-ltb}
use lib.Dec.{leb, ltb}
use lib.ListN.{length, length-reverse}
use mathlib.Core.Bool.{◌&&◌, and-false, false, true}
use mathlib.Core.List.{List, [], ◌∷◌, reverse}
use mathlib.Core.Path.{◌∙◌, ◌≡◌, ap, refl, sym}
use native.Mathlib.Omega.{arith}
use Rattle.bio_ids.specs.declared.GenomePosition.{GenomePosition}
use Rattle.definitions.specs.Bytes.{and_then, compare_bytes}
use Rattle.definitions.specs.Checked.{accepted, refused}
use Rattle.definitions.specs.Lines.{key_of, line_at}
use Rattle.definitions.specs.Lists.{by_order}
use Rattle.definitions.specs.LookUp.{Place, follows, max_places, not_after, place_of, places_of}
use Rattle.definitions.specs.Numbers.{name, number}
use Rattle.kv_text.proofs.Groups.{FromHere, behind_next, behind_start, continued, continued_end, continued_next, continued_refused, continued_start, group_accepted, group_refused, groups_ended, line_read, line_unread}
use Rattle.kv_text.specs.Fields.{between}
use Rattle.kv_text.specs.declared.Part.{Part}
use Rattle.kv_text.specs.Lines.{Behind, LineReads, read_to, unread}
use Rattle.laws.proofs.Checked.{not_required, required, then, then_refused}
use Rattle.laws.proofs.Orders.{compare_eq, compare_gt, compare_lt}
use Rattle.laws.proofs.Tests.{both}
use Rattle.asked_places.specs.Asked.{PairTo, PlacesTo, pair_lines, place_in, place_with}
use Rattle.asked_places.specs.declared.Pair.{Pair}

-- ---- the lines of a pair

module _ (s : List ℕ) (at : ℕ) where
  pub first_unread : LineReads s at (key_of "contig") name unread → (before : List Place) → place_of before (pair_lines s at) ≡ refused 1
  unfolding place_of
  first_unread l before = then_refused _ _ (line_unread (behind_start s at) "contig" name 2 (omega arith) l)

  module _ (contig : List ℕ) (e₁ : ℕ) (l₁ : LineReads s at (key_of "contig") name (read_to contig e₁)) where
    one : Behind s at 1 (e₁ + 1)
    one = behind_next (behind_start s at) "contig" name contig e₁ l₁

    first_read : line_at (pair_lines s at) 0 "contig" name ≡ accepted contig
    first_read = line_read (behind_start s at) "contig" name 2 (omega arith) contig e₁ l₁

    pub second_unread : LineReads s (e₁ + 1) (key_of "pos") number unread → (before : List Place) → place_of before (pair_lines s at) ≡ refused 1
    unfolding place_of
    second_unread l before = then _ _ first_read (then_refused _ _ (line_unread one "pos" number 2 (omega arith) l))

    module _ (n e₂ : ℕ) (l₂ : LineReads s (e₁ + 1) (key_of "pos") number (read_to n e₂)) where
      two : Behind s at 2 (e₂ + 1)
      two = behind_next one "pos" number n e₂ l₂

      second_read : line_at (pair_lines s at) 1 "pos" number ≡ accepted n
      second_read = line_read one "pos" number 2 (omega arith) n e₂ l₂

      pub pair_read : (p : Pair) → contig ≡ between s p.contig.at p.contig.end → n ≡ p.position.0 → p.next ≡ e₂ + 1 → PairTo s at p
      unfolding place_of LineReads
      pair_read p on here behind-it = record {
        value = λ before. then _ _ first_read (then _ _ second_read (rw (on, here)));
        behind = rw behind-it two;
        forward = omega (arith, l₁.forward, l₂.forward);
        within = omega (arith, l₂.within);
      }

-- ---- list order

pub not_greater : (a b : ℕ) → leb a b ≡ by_order (compare a b) true true false
unfolding by_order
not_greater a b = go (compare a b) refl
  where
    go : (o : Ordering) → compare a b ≡ o → leb a b ≡ by_order o true true false
    go Ordering.lt e = let z = compare_lt _ _ e in le-leb a b (omega arith)
    go Ordering.eq e = let z = compare_eq _ _ e in le-leb a b (omega arith)
    go Ordering.gt e = let z = compare_gt _ _ e in lt-leb a b (omega arith)

-- ---- the pairs of a text

-- the pairs from an offset on are left, behind so many, of which the nearest is this
pub record Counting (s : List ℕ) (at count : ℕ) (last : Part) (position : GenomePosition) : Type 0 where
  pub before : List Place
  pub left_is : continued before (FromHere 2 (omega arith) place_of before s at) ≡ places_of s
  pub count_is : count ≡ length before
  pub follows_is : (p : Place) → follows before p ≡ not_after (place_with (between s last.at last.end) position) p

-- every place stands after the empty name at 0
empty_first : (p : Place) → not_after (record { contig = []; position = 0 }) p ≡ true
unfolding not_after by_order and_then compare_bytes
empty_first p = go p.contig
  where
    go : (c : List ℕ) → by_order (and_then (compare_bytes [] c) (compare 0 p.position)) true true false ≡ true
    go [] = sym (not_greater 0 p.position) ∙ le-leb 0 p.position (omega arith)
    go (x ∷ c) = refl

pub counting_start : (s : List ℕ) (position : GenomePosition) → position.0 ≡ 0 → Counting s 0 0 (record { at = 0; end = 0 }) position
unfolding places_of follows
counting_start s position zero_is = record {
  before = [];
  left_is = sym (continued_start _);
  count_is = refl;
  follows_is = λ p. rw zero_is (sym (empty_first p));
}

module _ {s : List ℕ} {at count : ℕ} {last : Part} {position : GenomePosition} (k : Counting s at count last position) where
  refused_left : (row : ℕ) → FromHere 2 (omega arith) place_of k.before s at ≡ refused row → places_of s ≡ refused row
  refused_left row e = sym k.left_is ∙ ap (continued k.before) e ∙ continued_refused k.before row

  pub counting_end : length s ≤ at → PlacesTo s count
  counting_end h = record {
    places = reverse k.before;
    value =
        sym k.left_is ∙ ap (continued k.before) (groups_ended 2 (omega arith) place_of k.before s at h)
        ∙ continued_end k.before;
    counted = k.count_is ∙ sym (length-reverse k.before);
  }

  module _ (more : at < length s) where
    pub counting_wrong : ((before : List Place) → place_of before (pair_lines s at) ≡ refused 1) → places_of s ≡ refused 1
    counting_wrong e = refused_left 1 (group_refused 2 (omega arith) place_of k.before s at 1 more (e k.before))

    module _ {p : Pair} (to : PairTo s at p) where
      not_in_order : ltb (length k.before) max_places && follows k.before (place_in s p) ≡ false → places_of s ≡ refused 18
      not_in_order e =
          refused_left 18 (group_refused 2 (omega arith) place_of k.before s at 18 more (to.value k.before ∙ not_required 18 _ _ e))

      pub counting_many : max_places ≤ count → places_of s ≡ refused 18
      counting_many h = not_in_order (rw (le-ltb (length k.before) max_places (omega (arith, k.count_is))))

      pub counting_unordered : not_after (place_with (between s last.at last.end) position) (place_in s p) ≡ false → places_of s ≡ refused 18
      counting_unordered e = not_in_order (rw (k.follows_is (place_in s p), e, and-false))

      pub counting_next : count < max_places → not_after (place_with (between s last.at last.end) position) (place_in s p) ≡ true
          → Counting s p.next (count + 1) p.contig p.position
      unfolding follows
      counting_next few e =
          let t = both (lt-ltb (length k.before) max_places (omega (arith, k.count_is))) (k.follows_is (place_in s p) ∙ e) in
          record {
            before = place_in s p ∷ k.before;
            left_is =
                sym (continued_next k.before (place_in s p) _)
                ∙ ap (continued k.before) (sym (group_accepted 2 (omega arith) place_of k.before s at (place_in s p) p.next more to.behind
                (to.value k.before ∙ required 18 _ _ t refl)))
                ∙ k.left_is;
            count_is = omega (arith, k.count_is);
            follows_is = λ q. refl;
          }
