-- The loop over the names in `after`: the markers of those before stand in the list.
use Prim.Native.Nat.{◌+◌, ◌<◌, ◌≤◌, ℕ}
use lib.ListN.{drop, get_or, length, length-set, set, take}
use lib.Seq.{get_or-set_other, get_or-set_same, take-length, take-suc}
use mathlib.Core.Bool.{Bool, cond, false, true}
use mathlib.Core.List.{List, [], ◌++◌, ◌∷◌, map}
use mathlib.Core.Option.{none, some}
use mathlib.Core.Path.{◌∙◌, ◌≡◌, ap, ap₂, refl, sym}
use native.Mathlib.Decide.{dec_lt}
use native.Mathlib.Numerals.{add-one}
use native.Mathlib.Omega.{arith}
use Rattle.definitions.specs.Bytes.{comma, fields_of, same_bytes, text}
use Rattle.definitions.specs.Lists.{all_of, any_of, numbers_from}
use Rattle.kv_text.specs.Fields.{between}
use Rattle.laws.proofs.Every.{every_map, every_numbers}
use Rattle.tables.proofs.Stored.{map_same, one_more}
use Rattle.marker_groups.proofs.Find.{found, found_any, found_below, found_name, found_none}
use Rattle.marker_groups.proofs.Values.{all_end, all_fails, all_step}
use Rattle.marker_groups.specs.Markers.{AftersTo, after_names, name_of, names_in}

-- a list with a name is no dot
pub fields_named : (list : List ℕ) (i : ℕ) → i < length (after_names list) → after_names list ≡ fields_of comma list
unfolding after_names
fields_named list i h = go (same_bytes list (text ".")) h
  where
    go : (b : Bool) → i < length (cond b [] (fields_of comma list)) → cond b [] (fields_of comma list) ≡ fields_of comma list
    go true k = absurd (omega arith)
    go false k = refl

module _ (s rows : List ℕ) (count : ℕ) (list : List ℕ) where
  abbrev Named : List ℕ → Bool
  Named n = any_of (same_bytes n) (names_in s rows count)

  pub record Found (numbers : List ℕ) (i : ℕ) : Type 0 where
    pub few : i ≤ length (after_names list)
    pub long : length numbers ≡ 4
    pub named : map (λ j. name_of s rows (get_or numbers j 0)) (numbers_from 0 i) ≡ take i (after_names list)
    pub below : (j : ℕ) → j < i → get_or numbers j 0 < count
    pub all : all_of Named (after_names list) ≡ all_of Named (drop i (after_names list))

  pub found_start : (numbers : List ℕ) → length numbers ≡ 4 → Found numbers 0
  unfolding numbers_from
  found_start numbers long = record { few = omega arith; long = long; named = refl; below = λ j h. absurd (omega arith); all = refl }

  module _ {numbers : List ℕ} {i : ℕ} (f : Found numbers i) where
    module _ (more : i < length (after_names list)) (a e : ℕ) (field : get_or (fields_of comma list) i [] ≡ between list a e) where
      name_is : get_or (after_names list) i [] ≡ between list a e
      name_is = ap (λ (l : List (List ℕ)). get_or l i []) (fields_named list i more) ∙ field

      pub found_unnamed : found s rows count (between list a e) ≡ none → all_of Named (after_names list) ≡ false
      found_unnamed h = sym (all_fails _ _ _ f.all [] more (rw name_is (found_none s rows count (between list a e) h)))

      pub found_more : length (after_names list) ≤ 4 → (k : ℕ) → found s rows count (between list a e) ≡ some k → Found (set numbers i k) (i + 1)
      found_more four k is =
          let h = found_below s rows count (between list a e) k is in
          let room : i < length numbers = omega (arith, f.long) in
          record {
            few = omega arith;
            long = length-set numbers i k ∙ f.long;
            named =
                one_more (λ j. name_of s rows (get_or (set numbers i k) j 0)) i
                ∙ ap₂ (λ (l m : List (List ℕ)). l ++ m)
                (map_same _ _ 0 i (λ j b. ap (name_of s rows) (get_or-set_other numbers i j k 0 (λ q. absurd (omega arith)))) ∙ f.named)
                (ap (λ (n : List ℕ). n ∷ [])
                (ap (name_of s rows) (get_or-set_same numbers i k 0 room) ∙ found_name s rows count (between list a e) k is ∙ sym name_is))
                ∙ sym (take_more (after_names list) i more);
            below = λ j b. below_at j b (dec_lt j i);
            all = all_step _ _ _ f.all [] more (rw name_is (found_any s rows count (between list a e) k is));
          }
        where
          take_more : (l : List (List ℕ)) (i : ℕ) → i < length l → take (i + 1) l ≡ take i l ++ (get_or l i [] ∷ [])
          take_more l i h = rw (add-one i) (take-suc l i [] h)

          below_at : (j : ℕ) → j < i + 1 → Dec (j < i) → get_or (set numbers i k) j 0 < count
          below_at j b (yes c) = rw (get_or-set_other numbers i j k 0 (λ q. absurd (omega arith))) (f.below j c)
          below_at j b (no c) =
              let last : j ≡ i = omega arith in
              let room : i < length numbers = omega (arith, f.long) in
              rw (last, get_or-set_same numbers i k 0 room) (found_below s rows count (between list a e) k is)

    pub found_all : (names : ℕ) → names ≡ length (after_names list) → names ≤ i → AftersTo s rows count list numbers names
    found_all names is past =
        let last : i ≡ names = omega (arith, f.few) in
        let whole : i ≡ length (after_names list) = omega arith in
        let all_past : length (after_names list) ≤ i = omega arith in
        record {
          count_is = is;
          named = rw (← last) (f.named ∙ take_whole (after_names list) whole);
          all = sym (all_end _ _ _ f.all all_past);
          below = every_map (λ j h. f.below j (omega (arith, h.1))) (every_numbers 0 names);
        }
      where
        take_whole : (l : List (List ℕ)) → i ≡ length l → take i l ≡ l
        take_whole l e = rw (e, take-length l)

-- a name that is counted is there
pub absent_not : {s rows : List ℕ} {count : ℕ} {list numbers : List ℕ} {i : ℕ} → Found s rows count list numbers i → i < length (after_names list)
    → length (fields_of comma list) ≤ i → all_of (Named s rows count list) (after_names list) ≡ false
absent_not {list = list} {i = i} f more absent =
    let same : length (after_names list) ≡ length (fields_of comma list) = ap length (fields_named list i more) in
    absurd (omega arith)
