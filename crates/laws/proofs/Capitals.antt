-- Letters of either case as capitals (document 02, Note 6): what `capital` makes of a byte and `map capital` of a text, of its parts
-- and fields; what `letters_of` reads.
use Prim.Native.Nat.{◌-◌, ◌<◌, ◌≤◌, suc, ℕ}
use borrow.Author.Tests.{eq-eqb, eqb-true, leb-true, ne_eqb}
use lib.Dec.{eqb, leb}
use lib.ListN.{get_or-map, drop, drop_of_length-le, get_or, length, length-map, take}
use lib.Seq.{drop-cons}
use mathlib.Core.Bool.{Bool, ◌&&◌, ◌||◌, cond, false, true}
use mathlib.Core.List.{List, [], ◌++◌, ◌∷◌, map, map-append}
use mathlib.Core.Logic.{◌≢◌}
use mathlib.Core.Option.{some}
use mathlib.Core.Path.{◌∙◌, ◌≡◌, ap, ap₂, refl, sym}
use native.Mathlib.Omega.{arith}
use Rattle.definitions.specs.Alleles.{capital, is_letter, letters_of}
use Rattle.definitions.specs.Bytes.{and_then, comma, compare_bytes, fields_of, is_prefix, joined_by, line_feed, same_bytes, text}
use Rattle.definitions.specs.Lists.{all_of, any_of, is_there, only_if, split_where, to_first}
use Rattle.laws.proofs.Bytes.{not_same, same_refl}
use Rattle.laws.proofs.Every.{every_map, every_member, every_of_map, every_passed}
use Rattle.laws.proofs.Fields.{Free}
use Rattle.laws.proofs.Members.{any_append, any_member, drop_map, take_map}
use Rattle.laws.proofs.Orders.{compare_refl}
use Rattle.laws.proofs.Tests.{after_only_if, both_of, only_if_is, only_if_there, or_right, told_apart}

-- ---- a byte

-- one of acgtn
abbrev pub is_small : ℕ → Bool
is_small b = any_of (eqb b) (text "acgtn")

-- what all bytes of a list pass, a byte among them passes
among : (p : ℕ → Bool) (l : List ℕ) (b : ℕ) → all_of p l ≡ true → any_of (eqb b) l ≡ true → p b ≡ true
among p l b h e =
    let (a, m, same) = any_member (eqb b) l e in
    rw (eqb-true b a same) (every_member m (every_passed p l h))

-- a capital letter is its own capital
pub capital_letter : (b : ℕ) → is_letter b ≡ true → capital b ≡ b
unfolding is_letter capital any_of all_of text
capital_letter b h = eqb-true _ _ (among (λ n. eqb (capital n) n) (text "ACGTN") b refl h)

module _ (b : ℕ) where
  pub capital_small : is_small b ≡ true → capital b ≡ b - 32
  unfolding capital
  capital_small h = rw h

  pub capital_other : is_small b ≡ false → capital b ≡ b
  unfolding capital
  capital_other h = rw h

  -- so 32 can be taken off
  pub small_high : is_small b ≡ true → 97 ≤ b
  unfolding any_of all_of text
  small_high h = leb-true 97 b (among (leb 97) (text "acgtn") b refl h)

  pub small_raised : is_small b ≡ true → is_letter (capital b) ≡ true
  unfolding is_letter capital any_of all_of text
  small_raised h = among (λ n. is_letter (capital n)) (text "acgtn") b refl h

  -- raising twice is raising once
  pub capital_again : capital (capital b) ≡ capital b
  capital_again = go (is_small b) refl
    where
      go : (t : Bool) → is_small b ≡ t → capital (capital b) ≡ capital b
      go true e = capital_letter (capital b) (small_raised e)
      go false e = ap capital (capital_other e)

  pub capital_below : capital b ≤ b
  capital_below = go (is_small b) refl
    where
      go : (t : Bool) → is_small b ≡ t → capital b ≤ b
      go true e = omega (arith, capital_small e)
      go false e = omega (arith, capital_other e)

  -- the bytes that are letters when raised
  pub either_case : is_letter (capital b) ≡ any_of (eqb b) (text "ACGTNacgtn")
  either_case = go (is_small b) refl
    where
      split : any_of (eqb b) (text "ACGTNacgtn") ≡ (is_letter b || is_small b)
      split = unfold is_letter text in any_append (eqb b) (text "ACGTN") (text "acgtn")

      neither : (a : Bool) → is_small b ≡ false → (a || is_small b) ≡ a
      neither true e = refl
      neither false e = e

      go : (t : Bool) → is_small b ≡ t → is_letter (capital b) ≡ any_of (eqb b) (text "ACGTNacgtn")
      go true e = small_raised e ∙ sym (split ∙ or_right (is_letter b) e)
      go false e = ap is_letter (capital_other e) ∙ sym (split ∙ neither (is_letter b) e)

  -- a byte that is no letter in either case, as a separator, is met where it stands
  pub capital_is : (n : ℕ) → is_letter n ≡ false → is_small n ≡ false → eqb (capital b) n ≡ eqb b n
  capital_is n h k = go (is_small b) refl
    where
      go : (t : Bool) → is_small b ≡ t → eqb (capital b) n ≡ eqb b n
      go true e =
          ne_eqb _ _ (told_apart is_letter (small_raised e) h) ∙ sym (ne_eqb _ _ (told_apart is_small e k))
      go false e = ap (λ (c : ℕ). eqb c n) (capital_other e)

-- ---- a text and its parts

-- letters stay
pub capitals_same : (s : List ℕ) → all_of is_letter s ≡ true → map capital s ≡ s
unfolding all_of
capitals_same [] h = refl
capitals_same (b ∷ s) h =
    let (first, rest) = both_of (is_letter b) (all_of is_letter s) h in
    ap₂ (λ (c : ℕ) (t : List ℕ). c ∷ t) (capital_letter b first) (capitals_same s rest)

pub capitals_again : (s : List ℕ) → map capital (map capital s) ≡ map capital s
capitals_again [] = refl
capitals_again (b ∷ s) = ap₂ (λ (c : ℕ) (t : List ℕ). c ∷ t) (capital_again b) (capitals_again s)

-- the byte at an offset
pub capital_at : (s : List ℕ) (i : ℕ) → get_or (map capital s) i 0 ≡ capital (get_or s i 0)
unfolding capital any_of text
capital_at s i = get_or-map capital s i 0

-- a part of the text
pub capitals_part : (s : List ℕ) (i n : ℕ) → take n (drop i (map capital s)) ≡ map capital (take n (drop i s))
capitals_part s i n = ap (take n) (drop_map capital s i) ∙ take_map capital (drop i s) n

-- a text extended by the end of another
pub capitals_extended : (s own ref : List ℕ)
    → map capital s ++ drop (length (map capital own)) (map capital ref) ≡ map capital (s ++ drop (length own) ref)
capitals_extended s own ref =
    ap (λ (n : ℕ). map capital s ++ drop n (map capital ref)) (length-map own capital)
    ∙ ap (λ (t : List ℕ). map capital s ++ t) (drop_map capital ref (length own))
    ∙ sym (map-append capital s (drop (length own) ref))

-- a text without its end
pub capitals_front : (s : List ℕ) (n : ℕ) → take (length (map capital s) - n) (map capital s) ≡ map capital (take (length s - n) s)
capitals_front s n = ap (λ (m : ℕ). take (m - n) (map capital s)) (length-map s capital) ∙ take_map capital s (length s - n)

-- a prefix
pub prefix_capitals : (p s : List ℕ)
    → is_prefix (map capital p) (map capital s) ≡ same_bytes (map capital p) (map capital (take (length p) s))
unfolding is_prefix
prefix_capitals p s =
    ap (same_bytes (map capital p))
    (ap (λ (n : ℕ). take n (map capital s)) (length-map p capital) ∙ take_map capital s (length p))

-- ---- the same letters, byte by byte

-- two texts are the same when raised
abbrev pub same_letters : List ℕ → List ℕ → Bool
same_letters a b = same_bytes (map capital a) (map capital b)

module _ (a b : List ℕ) where
  pub letters_other_length : length a ≢ length b → same_letters a b ≡ false
  letters_other_length h = not_same _ _ λ e. h (sym (length-map a capital) ∙ ap length e ∙ length-map b capital)

  pub letters_other_byte : (i : ℕ) → capital (get_or a i 0) ≢ capital (get_or b i 0) → same_letters a b ≡ false
  letters_other_byte i h = not_same _ _ λ e. h (sym (capital_at a i) ∙ ap (λ (l : List ℕ). get_or l i 0) e ∙ capital_at b i)

  -- what is left of both, one byte more
  pub letters_next : (i : ℕ) → i < length a → i < length b → capital (get_or a i 0) ≡ capital (get_or b i 0)
      → same_letters (drop i a) (drop i b) ≡ same_letters (drop (suc i) a) (drop (suc i) b)
  unfolding same_bytes compare_bytes and_then
  letters_next i h l e = rw (drop-cons a i 0 h, drop-cons b i 0 l, e) (rw (compare_refl (capital (get_or b i 0))))

  pub letters_end : (i : ℕ) → length a ≤ i → length b ≤ i → same_letters (drop i a) (drop i b) ≡ true
  letters_end i h l = rw (drop_of_length-le a h, drop_of_length-le b l) (same_refl [])

-- ---- fields

module _ (separator : ℕ) (h : is_letter separator ≡ false) (k : is_small separator ≡ false) where
  pub free_capitals : {s : List ℕ} → Free separator s → Free separator (map capital s)
  free_capitals f = every_of_map capital (every_map raised f)
    where
      raised : (b : ℕ) → b ≢ separator → capital b ≢ separator
      raised b other e = other (eqb-true b separator (sym (capital_is b separator h k) ∙ eq-eqb _ _ e))

  pub fields_capitals : (s : List ℕ) → fields_of separator (map capital s) ≡ map (map capital) (fields_of separator s)
  unfolding fields_of split_where to_first
  fields_capitals [] = refl
  fields_capitals (b ∷ s) = rw (capital_is b separator h k) (go (eqb b separator) (fields_capitals s))
    where
      first : (fs : List (List ℕ)) → to_first (capital b) (map (map capital) fs) ≡ map (map capital) (to_first b fs)
      first [] = refl
      first (f ∷ fs) = refl

      go : (t : Bool) → split_where (λ c. eqb c separator) (map capital s) ≡ map (map capital) (split_where (λ c. eqb c separator) s)
          → cond t ([] ∷ split_where (λ c. eqb c separator) (map capital s))
          (to_first (capital b) (split_where (λ c. eqb c separator) (map capital s)))
          ≡ map (map capital) (cond t ([] ∷ split_where (λ c. eqb c separator) s) (to_first b (split_where (λ c. eqb c separator) s)))
      go true e = ap (λ (fs : List (List ℕ)). [] ∷ fs) e
      go false e = ap (to_first (capital b)) e ∙ first (split_where (λ c. eqb c separator) s)

  pub joined_capitals : (fs : List (List ℕ)) → joined_by separator (map (map capital) fs) ≡ map capital (joined_by separator fs)
  unfolding joined_by
  joined_capitals [] = refl
  joined_capitals (f ∷ []) = refl
  joined_capitals (f ∷ g ∷ fs) =
      ap₂ (λ (c : ℕ) (t : List ℕ). map capital f ++ c ∷ t) (sym (capital_other separator k)) (joined_capitals (g ∷ fs))
      ∙ sym (map-append capital f (separator ∷ joined_by separator (g ∷ fs)))

-- `,` and LF are such
pub comma_no_letter : (is_letter comma ≡ false) × (is_small comma ≡ false)
unfolding comma is_letter any_of text
comma_no_letter = (refl, refl)

pub line_feed_no_letter : (is_letter line_feed ≡ false) × (is_small line_feed ≡ false)
unfolding line_feed is_letter any_of text
line_feed_no_letter = (refl, refl)

-- ---- letters_of

all_capitals : (s : List ℕ) → all_of is_letter (map capital s) ≡ all_of (λ b. is_letter (capital b)) s
unfolding all_of
all_capitals [] = refl
all_capitals (b ∷ s) = ap (λ (t : Bool). is_letter (capital b) && t) (all_capitals s)

module _ (most : ℕ) (s : List ℕ) where
  -- by the bytes as they stand
  pub letters_by_bytes : letters_of most s
      ≡ only_if (leb 1 (length s) && leb (length s) most && all_of (λ b. is_letter (capital b)) s) (map capital s)
  unfolding letters_of
  letters_by_bytes = rw (length-map s capital, all_capitals s)

  -- whether they are letters, as a test of the bytes as they stand
  pub are_letters : is_there (letters_of most s)
      ≡ is_there (only_if (leb 1 (length s) && leb (length s) most && all_of (λ b. is_letter (capital b)) s) s)
  are_letters = ap is_there letters_by_bytes ∙ only_if_is _ (map capital s) ∙ sym (only_if_is _ s)

  -- what is read is the capitals
  pub letters_raised : is_there (letters_of most s) ≡ true → letters_of most s ≡ some (map capital s)
  unfolding letters_of
  letters_raised h = only_if_there _ (map capital s) h

  pub letters_raised_back : {r : List ℕ} → letters_of most s ≡ some r → map capital s ≡ r
  unfolding letters_of
  letters_raised_back e = after_only_if _ _ e λ t p. p

  -- and as many
  pub letters_as_many : {r : List ℕ} → letters_of most s ≡ some r → length r ≡ length s
  letters_as_many e = sym (ap length (letters_raised_back e)) ∙ length-map s capital
