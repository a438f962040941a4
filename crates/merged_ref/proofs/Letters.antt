-- The letter of a reference text, by where it stands.
use Prim.Native.Nat.{◌+◌, ◌-◌, ◌<◌, ◌≤◌, ℕ}
use borrow.Author.Tests.{leb-true, ltb-true}
use lib.Dec.{leb, ltb}
use lib.ListN.{drop, get_or, length, length-drop, length-map, length-take, take}
use lib.Seq.{drop-cons, get_or-drop, get_or-take}
use mathlib.Core.Bool.{Bool, cond, false, true}
use mathlib.Core.List.{List, [], ◌++◌, ◌∷◌, map}
use mathlib.Core.Option
use mathlib.Core.Option.{Option, none, some}
use mathlib.Core.Path.{◌∙◌, ◌≡◌, ap, refl, sym}
use native.Mathlib.Omega.{arith}
use Rattle.std.proofs.lemmas.Bool.{false≢true}
use Rattle.definitions.specs.Alleles.{capital}
use Rattle.definitions.specs.Bytes.{same_bytes}
use Rattle.definitions.specs.ClipAndReference.{ReferenceSegment, reference_letter, segment_holds, segment_letter}
use Rattle.definitions.specs.Lists.{first_where}
use Rattle.kv_text.specs.Fields.{between}
use Rattle.laws.proofs.Capitals.{capital_at}
use Rattle.laws.proofs.Members.{first_found}
use Rattle.laws.proofs.Tests.{all_three, not_none}
use Rattle.std.specs.Prelude as std

-- ---- a letter of a part

pub part_room : (s : List ℕ) (a e k : ℕ) → k < length (between s a e) → (a + k < length s) × (k < e - a)
part_room s a e k h =
    let l : k < length (between s a e) = h in
    (omega (arith, length-take (e - a) (drop a s), length-drop a s), omega (arith, length-take (e - a) (drop a s)))

pub part_letter : (s : List ℕ) (a e k : ℕ) → k < length (between s a e) → take 1 (drop (a + k) s) ≡ get_or (between s a e) k 0 ∷ []
part_letter s a e k h =
    let (in_text, in-part) = part_room s a e k h in
    rw (drop-cons s (a + k) 0 in_text, get_or-take (e - a) (drop a s) k 0 in-part, get_or-drop a s k 0)

-- ---- an answer that may be none

module _ {A : Type 0} where
  pub there_is : (o : std.Option A) → std.is_some o ≡ true → (a : A) × (o ≡ std.Some a)
  there_is (std.Some a) e = (a, refl)
  there_is std.None e = absurd (false≢true e)

  pub there_is_none : (o : std.Option A) → std.is_some o ≡ false → o ≡ std.None
  there_is_none (std.Some a) e = absurd (false≢true (sym e))
  there_is_none std.None e = refl

-- ---- the first that passes a test, in two lists

module _ {A : Type 0} (p : A → Bool) where
  pub first_front : (front rest : List A) {a : A} → first_where p front ≡ some a → first_where p (front ++ rest) ≡ some a
  unfolding first_where
  first_front [] rest e = not_none e
  first_front (x ∷ front) rest {a} e = go (p x) e (first_front front rest)
    where
      go : (b : Bool) → cond b (some x) (first_where p front) ≡ some a → (first_where p front ≡ some a → first_where p (front ++ rest) ≡ some a)
          → cond b (some x) (first_where p (front ++ rest)) ≡ some a
      go true e later = e
      go false e later = later e

  pub first_behind : (front rest : List A) → first_where p front ≡ none → first_where p (front ++ rest) ≡ first_where p rest
  unfolding first_where
  first_behind [] rest e = refl
  first_behind (x ∷ front) rest e = go (p x) e (first_behind front rest)
    where
      go : (b : Bool) → cond b (some x) (first_where p front) ≡ none → (first_where p front ≡ none → first_where p (front ++ rest) ≡ first_where p rest)
          → cond b (some x) (first_where p (front ++ rest)) ≡ first_where p rest
      go true e later = not_none (sym e)
      go false e later = later e

-- ---- the letter

-- The offset is that of the letter at the position in the bases of the first segment that holds it, which stand in the reference text,
-- in either case, from `bases_at` to before `bases_end`.
pub record LetterIn (reference contig : List ℕ) (position : ℕ) (segments : List ReferenceSegment) (i : ℕ) : Type 0 where
  pub segment : ReferenceSegment
  pub holding : first_where (segment_holds contig position) segments ≡ some segment
  pub bases_at : ℕ
  pub bases_end : ℕ
  pub bases : segment.bases ≡ map capital (between reference bases_at bases_end)
  pub offset : i ≡ bases_at + (position - segment.first)

-- the letter is found there, or no segment holds the position
unfoldable pub LetterFound : List ℕ → List ℕ → ℕ → List ReferenceSegment → Option ℕ → Type 0
LetterFound reference contig position segments (some i) = LetterIn reference contig position segments i
LetterFound reference contig position segments none = first_where (segment_holds contig position) segments ≡ none

module _ (reference contig : List ℕ) (position : ℕ) where
  abbrev Of : List ReferenceSegment → Option ℕ → Type 0
  Of = LetterFound reference contig position

  abbrev holds : ReferenceSegment → Bool
  holds = segment_holds contig position

  in_bases : (g : ReferenceSegment) → holds g ≡ true → (g.first ≤ position) × (position < g.first + length g.bases)
  unfolding segment_holds
  in_bases g e =
      let (_, low, high) = all_three (same_bytes contig g.contig) (leb g.first position) (ltb position (g.first + length g.bases)) e in
      (leb-true _ _ low, ltb-true _ _ high)

  -- its letter is the capital of the byte there
  pub letter_is : (segments : List ReferenceSegment) (i : ℕ) → Of segments (some i)
      → (byte : ℕ) × (reference_letter segments contig position ≡ some (capital byte)) × (take 1 (drop i reference) ≡ byte ∷ [])
  unfolding LetterFound reference_letter segment_letter
  letter_is segments i f =
      let (low, high) = in_bases f.segment (first_found holds segments f.holding).1 in
      let part = between reference f.bases_at f.bases_end in
      let index = position - f.segment.first in
      let inside : index < length part = omega (arith, low, high, ap length f.bases ∙ length-map part capital) in
      let raised : segment_letter position f.segment ≡ capital (get_or part index 0) = rw f.bases (capital_at part index) in (
        get_or part index 0,
        ap (Option.map (segment_letter position)) f.holding ∙ ap {B = Option ℕ} some raised,
        rw f.offset (part_letter reference f.bases_at f.bases_end index inside),
      )

  pub letter_lacks : (segments : List ReferenceSegment) → Of segments none → reference_letter segments contig position ≡ none
  unfolding LetterFound reference_letter
  letter_lacks segments f = ap (Option.map (segment_letter position)) f
