-- The common ending of REF and another allele, letter by letter from the end.
use Prim.Native.Nat.{◌+◌, ◌-◌, ◌<◌, ◌≤◌, min, suc, ℕ}
use borrow.Author.Tests.{eq-eqb, ne_eqb}
use lib.ListN.{get_or-append, drop, drop_of_length-le, get_or, length, length-map, length-reverse}
use lib.Seq.{drop-cons, get_or_at}
use mathlib.Core.List.{List, [], ◌∷◌, map, reverse, reverse-cons}
use mathlib.Core.Logic.{◌≢◌}
use mathlib.Core.Path.{◌∙◌, ◌≡◌, ap, refl, sym}
use native.Mathlib.Decide.{dec_lt}
use native.Mathlib.Nat.{zero-add}
use native.Mathlib.Numerals.{add-one}
use native.Mathlib.Omega.{arith}
use Rattle.definitions.specs.Alleles.{capital}
use Rattle.definitions.specs.ReverseTrim.{common_prefix, common_suffix_length}
use Rattle.laws.proofs.Capitals.{capital_at}
use Rattle.reverse_trim.specs.CommonEnding.{common_ending}

-- a text from its end on
get_d_reverse : (s : List ℕ) (n : ℕ) → n < length s → get_or (reverse s) n 0 ≡ get_or s (length s - 1 - n) 0
get_d_reverse [] n h = absurd (omega arith)
get_d_reverse (x ∷ s) n h = go (dec_lt n (length s)) (get_d_reverse s n)
  where
    go : Dec (n < length s) → (n < length s → get_or (reverse s) n 0 ≡ get_or s (length s - 1 - n) 0)
        → get_or (reverse (x ∷ s)) n 0 ≡ get_or (x ∷ s) (length (x ∷ s) - 1 - n) 0
    go (yes l) rest =
        let long : n < length (reverse s) = omega (arith, length-reverse s) in
        let further : suc (length s - 1 - n) ≡ length (x ∷ s) - 1 - n = omega arith in
        ap (λ (l : List ℕ). get_or l n 0) (reverse-cons x s) ∙ get_or-append (reverse s) (x ∷ []) 0 n long ∙ rest l
        ∙ ap (λ (k : ℕ). get_or (x ∷ s) k 0) further
    go (no l) rest =
        let here : length (reverse s) ≡ n = omega (arith, length-reverse s) in
        let first : 0 ≡ length (x ∷ s) - 1 - n = omega arith in
        ap (λ (l : List ℕ). get_or l n 0) (reverse-cons x s) ∙ get_or_at (reverse s) x [] 0 n here
        ∙ ap (λ (k : ℕ). get_or (x ∷ s) k 0) first

reverse_from : (s : List ℕ) (n : ℕ) → n < length s → drop n (reverse s) ≡ get_or s (length s - 1 - n) 0 ∷ drop (n + 1) (reverse s)
reverse_from s n h =
    let long : n < length (reverse s) = omega (arith, length-reverse s) in
    drop-cons (reverse s) n 0 long ∙ rw (get_d_reverse s n h, add-one n)

prefix_same : (a b : ℕ) (s t : List ℕ) → a ≡ b → length (common_prefix (a ∷ s) (b ∷ t)) ≡ suc (length (common_prefix s t))
unfolding common_prefix
prefix_same a b s t h = rw (eq-eqb a b h)

prefix_differs : (a b : ℕ) (s t : List ℕ) → a ≢ b → length (common_prefix (a ∷ s) (b ∷ t)) ≡ 0
unfolding common_prefix
prefix_differs a b s t h = rw (ne_eqb a b h)

prefix_none : (s : List ℕ) → common_prefix s [] ≡ []
unfolding common_prefix
prefix_none [] = refl
prefix_none (a ∷ s) = refl

module _ (ref allele : List ℕ) (most : ℕ) where
  abbrev whole : ℕ
  whole = min most (common_ending ref allele)

  -- how many letters before the last n are the same
  abbrev before : ℕ → ℕ
  before n = length (common_prefix (drop n (reverse allele)) (drop n (reverse ref)))

  -- the last n letters of both are the same
  pub record EndingLeft (n : ℕ) : Type 0 where
    pub few : n ≤ most
    pub one_left : n ≤ length allele - 1
    pub same : common_suffix_length (ref ∷ allele ∷ []) ≡ n + before n

  pub ending_start : EndingLeft 0
  unfolding common_suffix_length
  ending_start = record { few = omega arith; one_left = omega arith; same = sym (zero-add _) }

  module _ {n : ℕ} (left : EndingLeft n) where
    -- REF has ended
    pub ending_whole : length ref ≤ n → n ≡ whole
    ending_whole h =
        let short : length (reverse ref) ≤ n = omega (arith, length-reverse ref) in
        let none : before n ≡ 0 = rw (drop_of_length-le (reverse ref) short, prefix_none) in
        omega (arith, left.same, none)

    -- the other has one letter left
    pub ending_one_left : length allele ≤ n + 1 → n ≡ whole
    ending_one_left h = omega (arith, left.same, left.one_left, left.few)

    -- there are enough
    pub ending_most : most ≤ n → n ≡ whole
    ending_most h = omega (arith, left.same, left.one_left, left.few)

    module _ (long : n < length ref) (other-long : n + 1 < length allele) where
      abbrev same_letter : Type 0
      same_letter = get_or ref (length ref - 1 - n) 0 ≡ get_or allele (length allele - 1 - n) 0

      -- the next letters are the same
      pub ending_more : n < most → same_letter → EndingLeft (n + 1)
      ending_more h e =
          let one_more : before n ≡ suc (before (n + 1)) =
          rw (reverse_from allele n (omega arith), reverse_from ref n long) (prefix_same _ _ _ _ (sym e)) in
          record { few = omega arith; one_left = omega arith; same = omega (arith, left.same, one_more) }

      -- or they differ
      pub ending_differs : (same_letter → ⊥) → n ≡ whole
      ending_differs e =
          let none : before n ≡ 0 =
          rw (reverse_from allele n (omega arith), reverse_from ref n long) (prefix_differs _ _ _ _ (λ h. e (sym h))) in
          omega (arith, left.same, none, left.few)

-- ---- letters in either case, raised

raised_at : (s : List ℕ) (n : ℕ) → get_or (map capital s) (length (map capital s) - 1 - n) 0 ≡ capital (get_or s (length s - 1 - n) 0)
raised_at s n = rw (length-map s capital) (capital_at s (length s - 1 - n))

module _ (ref allele : List ℕ) (most : ℕ) {n : ℕ} (left : EndingLeft (map capital ref) (map capital allele) most n) where
  abbrev whole_raised : ℕ
  whole_raised = min most (common_ending (map capital ref) (map capital allele))

  pub raised_whole : length ref ≤ n → n ≡ whole_raised
  raised_whole h = ending_whole _ _ _ left (rw (length-map ref capital) h)

  pub raised_one_left : length allele ≤ n + 1 → n ≡ whole_raised
  raised_one_left h = ending_one_left _ _ _ left (rw (length-map allele capital) h)

  module _ (long : n < length ref) (other-long : n + 1 < length allele) where
    abbrev same_raised : Type 0
    same_raised = capital (get_or ref (length ref - 1 - n) 0) ≡ capital (get_or allele (length allele - 1 - n) 0)

    pub raised_more : n < most → same_raised → EndingLeft (map capital ref) (map capital allele) most (n + 1)
    raised_more h e =
        ending_more _ _ _ left (rw (length-map ref capital) long) (rw (length-map allele capital) other-long) h
        (raised_at ref n ∙ e ∙ sym (raised_at allele n))

    pub raised_differs : (same_raised → ⊥) → n ≡ whole_raised
    raised_differs e =
        ending_differs _ _ _ left (rw (length-map ref capital) long) (rw (length-map allele capital) other-long)
        (λ h. e (sym (raised_at ref n) ∙ h ∙ raised_at allele n))
