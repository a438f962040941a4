-- How many letters are cut off: each letter ALT is compared with REF alone.
use Prim.Native.Nat.{◌+◌, ◌-◌, ◌<◌, ◌≤◌, min, suc, zero, ℕ}
use borrow.Author.Tests.{eqb-true, le-ltb}
use lib.Dec.{eqb}
use lib.ListN.{drop, length, length-reverse, length-take, take}
use lib.Seq.{take-length, take-nil}
use mathlib.Core.Bool.{Bool, ◌||◌, cond, false, not, true}
use mathlib.Core.List.{List, [], ◌∷◌, filter_map, foldr, map, reverse}
use mathlib.Core.Option.{Option-elim}
use mathlib.Core.Path.{◌∙◌, ◌≡◌, ap, refl, sym}
use native.Mathlib.Omega.{arith}
use Rattle.definitions.specs.Alleles.{capital, letters, non_ref, span_del, spelled}
use Rattle.definitions.specs.Bytes.{comma, fields_of, same_bytes, text}
use Rattle.definitions.specs.Genotypes.{least}
use Rattle.definitions.specs.Lists.{any_of, is_there, only_if}
use Rattle.definitions.specs.ReverseTrim.{common_prefix, common_suffix_length, letters_in, suffix_clip_count}
use Rattle.kv_text.proofs.Fields.{field_first, field_last}
use Rattle.kv_text.specs.Fields.{between, field_length}
use Rattle.laws.proofs.Tests.{clash}
use Rattle.laws.proofs.AllelesAsRead.{allele_as_read}
use Rattle.reverse_trim.specs.CommonEnding.{common_ending, common_ending_of_all}
use Rattle.reverse_trim.specs.LetterAlleles.{alleles_spelled, letters_spelled, spells_letters}

-- ---- the common ending of REF and letter alleles

prefix_of_take : (t r : List ℕ) (m : ℕ) → common_prefix t (take m r) ≡ take (min (length (common_prefix t r)) m) r
unfolding common_prefix
prefix_of_take [] r m = let e : min 0 m ≡ 0 = omega arith in rw e
prefix_of_take (a ∷ t) [] m = rw (take-nil m, take-nil (min 0 m))
prefix_of_take (a ∷ t) (b ∷ r) zero =
    let e : min (length (cond (eqb a b) (a ∷ common_prefix t r) [])) 0 ≡ 0 = omega arith in rw e
prefix_of_take (a ∷ t) (b ∷ r) (suc m) = go (eqb a b) refl (prefix_of_take t r m)
  where
    go : (v : Bool) → eqb a b ≡ v → common_prefix t (take m r) ≡ take (min (length (common_prefix t r)) m) r
        → cond v (a ∷ common_prefix t (take m r)) [] ≡ take (min (length (cond v (a ∷ common_prefix t r) [])) (suc m)) (b ∷ r)
    go true e rest =
        let one_more : min (suc (length (common_prefix t r))) (suc m) ≡ suc (min (length (common_prefix t r)) m) = omega arith in
        rw (one_more, rest, eqb-true a b e)
    go false e rest = let none_left : min 0 (suc m) ≡ 0 = omega arith in rw none_left

less_one : (l q : ℕ) → min l q - 1 ≡ min (l - 1) (q - 1)
less_one l q = omega arith

pairs : (p a c b : ℕ) → min (min p a) (min c b) ≡ min (min c p) (min b a)
pairs p a c b = omega arith

regroup : (p q c l : ℕ) → min (min p (q - 1)) (min c (l - 1)) ≡ min (min c p) (min l q - 1)
regroup p q c l = pairs p (q - 1) c (l - 1) ∙ rw (less_one l q)

module _ (ref : List ℕ) where
  -- the least common ending
  least_common : List (List ℕ) → ℕ
  least_common ts = foldr min (length ref) (map (λ t. common_suffix_length (ref ∷ t ∷ [])) ts)

  least_short : (ts : List (List ℕ)) → least_common ts ≤ length ref
  unfolding least_common
  least_short [] = omega arith
  least_short (t ∷ ts) = omega (arith, least_short ts)

  common_prefix_lem : (ts : List (List ℕ))
      → foldr (λ t r. common_prefix (reverse t) r) (reverse ref) ts ≡ take (least_common ts) (reverse ref)
  unfolding least_common common_suffix_length
  common_prefix_lem [] = sym (rw (← length-reverse ref) (take-length (reverse ref)))
  common_prefix_lem (t ∷ ts) = ap (common_prefix (reverse t)) (common_prefix_lem ts) ∙ prefix_of_take (reverse t) (reverse ref) (least_common ts)

  common_least : (ts : List (List ℕ)) → common_suffix_length (ref ∷ ts) ≡ least_common ts
  unfolding common_suffix_length
  common_least ts =
      ap length (common_prefix_lem ts) ∙ length-take (least_common ts) (reverse ref) ∙ omega (arith, least_short ts, length-reverse ref)

  -- one letter of each left
  least_ending : ℕ → List (List ℕ) → ℕ
  least_ending clip ts = foldr (λ t m. min m (common_ending ref t)) clip ts

  ending_least : (ts : List (List ℕ)) → least_ending (length ref - 1) ts ≡ common_ending_of_all (ref ∷ ts)
  unfolding least_ending least_common least
  ending_least ts = go ts ∙ rw (common_least ts)
    where
      go : (ts : List (List ℕ)) → least_ending (length ref - 1) ts ≡ min (least_common ts) (foldr min (length ref) (map length ts) - 1)
      go [] = omega arith
      go (t ∷ ts) = ap (λ (m : ℕ). min m (common_ending ref t)) (go ts) ∙ regroup (least_common ts) (foldr min (length ref) (map length ts)) (common_suffix_length (ref ∷ t ∷ [])) (length t)

-- ---- the letter alleles of fields

-- those among fields
abbrev pub letters_from : List (List ℕ) → List (List ℕ)
letters_from fs = filter_map letters_in (map allele_as_read fs)

letters_field : (f : List ℕ) → letters_in (allele_as_read f) ≡ only_if (spells_letters f) (map capital f)
unfolding spells_letters allele_as_read letters_in is_there only_if
letters_field f = go (same_bytes f (spelled span_del)) (same_bytes f (spelled non_ref))
  where
    go : (a b : Bool) → letters_in (cond a span_del (cond b non_ref (letters (map capital f))))
        ≡ only_if (is_there (letters_in (cond a span_del (cond b non_ref (letters (map capital f)))))) (map capital f)
    go true b = refl
    go false true = refl
    go false false = refl

-- `*` and `<NON_REF>` are none
pub star_spelled : (f : List ℕ) → same_bytes f (text "*") ≡ true → false ≡ spells_letters f
unfolding spells_letters allele_as_read letters_in is_there spelled
star_spelled f h = rw h

pub other_spelled : (f : List ℕ) → same_bytes f (text "*") ≡ false → not (same_bytes f (text "<NON_REF>")) ≡ spells_letters f
unfolding spells_letters allele_as_read letters_in is_there spelled
other_spelled f h = rw h (go (same_bytes f (text "<NON_REF>")))
  where
    go : (b : Bool) → not b ≡ is_there (letters_in (cond b non_ref (letters (map capital f))))
    go true = refl
    go false = refl

letters_cons : (f : List ℕ) (fs : List (List ℕ)) → letters_from (f ∷ fs) ≡ cond (spells_letters f) (map capital f ∷ letters_from fs) (letters_from fs)
unfolding filter_map only_if
letters_cons f fs = rw (letters_field f) (go (spells_letters f))
  where
    go : (v : Bool) → Option-elim (only_if v (map capital f)) (letters_from fs) (λ c. c ∷ letters_from fs) ≡ cond v (map capital f ∷ letters_from fs) (letters_from fs)
    go true = refl
    go false = refl

pub no_letters : (fs : List (List ℕ)) → any_of spells_letters fs ≡ false → letters_from fs ≡ []
unfolding any_of filter_map
no_letters [] h = refl
no_letters (f ∷ fs) h = letters_cons f fs ∙ go (spells_letters f) h (no_letters fs)
  where
    go : (v : Bool) → (v || any_of spells_letters fs) ≡ false → (any_of spells_letters fs ≡ false → letters_from fs ≡ [])
        → cond v (map capital f ∷ letters_from fs) (letters_from fs) ≡ []
    go true e rest = cc
    go false e rest = rest e

pub some_letters : (fs : List (List ℕ)) → any_of spells_letters fs ≡ true → 0 < length (letters_from fs)
unfolding any_of
some_letters [] h = clash h refl
some_letters (f ∷ fs) h = rw (letters_cons f fs) (go (spells_letters f) h (some_letters fs))
  where
    go : (v : Bool) → (v || any_of spells_letters fs) ≡ true → (any_of spells_letters fs ≡ true → 0 < length (letters_from fs))
        → 0 < length (cond v (map capital f ∷ letters_from fs) (letters_from fs))
    go true e rest = omega arith
    go false e rest = rest e

-- ---- the loop over the ALTs

swap : (v w : Bool) (clip a b : ℕ)
    → cond v (min (cond w (min clip b) clip) a) (cond w (min clip b) clip) ≡ cond w (min (cond v (min clip a) clip) b) (cond v (min clip a) clip)
swap true true clip a b = omega arith
swap true false clip a b = refl
swap false w clip a b = refl

module _ (ref : List ℕ) where
  -- what `clip_with` gives
  abbrev pub clip_with : List ℕ → ℕ → ℕ
  clip_with f clip = cond (spells_letters f) (min clip (common_ending ref (map capital f))) clip

  abbrev pub clip_over : ℕ → List (List ℕ) → ℕ
  clip_over clip fs = foldr clip_with clip fs

  with_swap : (f g : List ℕ) (clip : ℕ) → clip_with f (clip_with g clip) ≡ clip_with g (clip_with f clip)
  with_swap f g clip = swap (spells_letters f) (spells_letters g) clip _ _

  -- the first field may be counted first
  over_first : (f : List ℕ) (clip : ℕ) (fs : List (List ℕ)) → clip_over clip (f ∷ fs) ≡ clip_over (clip_with f clip) fs
  over_first f clip [] = refl
  over_first f clip (g ∷ fs) = with_swap f g (clip_over clip fs) ∙ ap (clip_with g) (over_first f clip fs)

  over_letters : (clip : ℕ) (fs : List (List ℕ)) → clip_over clip fs ≡ least_ending ref clip (letters_from fs)
  unfolding least_ending filter_map
  over_letters clip [] = refl
  over_letters clip (f ∷ fs) = rw (letters_cons f fs, over_letters clip fs) (go (spells_letters f))
    where
      go : (v : Bool) → cond v (min (least_ending ref clip (letters_from fs)) (common_ending ref (map capital f))) (least_ending ref clip (letters_from fs))
          ≡ least_ending ref clip (cond v (map capital f ∷ letters_from fs) (letters_from fs))
      go true = refl
      go false = refl

  over_all : (fs : List (List ℕ)) → clip_over (length ref - 1) fs ≡ common_ending_of_all (ref ∷ letters_from fs)
  over_all fs = over_letters (length ref - 1) fs ∙ ending_least ref (letters_from fs)

  -- nothing is cut off an empty text
  pub over_none : length ref ≡ 0 → (ts : List (List ℕ)) → 0 ≡ common_ending_of_all (ref ∷ ts)
  over_none h ts = omega (arith, common_least ref ts, least_short ref ts)

  module _ (alts : List ℕ) where
    -- the fields from `at` on are left
    pub record ClipLeft (clip at : ℕ) : Type 0 where
      pub within : at ≤ length alts
      pub same : clip_over clip (fields_of 44 (drop at alts)) ≡ clip_over (length ref - 1) (fields_of comma alts)

    pub clip_start : {clip : ℕ} → clip ≡ length ref - 1 → ClipLeft clip 0
    unfolding comma
    clip_start e = record { within = omega arith; same = rw e }

    module _ {clip at end clip' : ℕ} (left : ClipLeft clip at) (ends : end ≡ at + field_length 44 (drop at alts))
        (e : clip' ≡ clip_with (between alts at end) clip) where
      pub clip_more : end < length alts → ClipLeft clip' (end + 1)
      clip_more h = record {
        within = omega arith;
        same = rw e (sym (over_first (between alts at end) clip (fields_of 44 (drop (end + 1) alts))))
            ∙ ap (clip_over clip) (sym (field_first 44 alts at end ends h)) ∙ left.same;
      }

      pub clip_done : length alts ≤ end → clip' ≡ common_ending_of_all (ref ∷ letters_spelled alts)
      unfolding letters_spelled alleles_spelled
      clip_done h = e ∙ ap (clip_over clip) (sym (field_last 44 alts at end ends left.within h)) ∙ left.same ∙ over_all (fields_of comma alts)

  -- ---- suffix_clip_count

  pub many_letters : (ts : List (List ℕ)) → 0 < length ts → suffix_clip_count (ref ∷ ts) ≡ common_ending_of_all (ref ∷ ts)
  unfolding suffix_clip_count
  many_letters ts h = rw (le-ltb (length (ref ∷ ts)) 2 (omega arith))

  -- REF may be the only letter allele
  pub few_letters : (fs : List (List ℕ)) → letters_from fs ≡ [] → 0 ≡ suffix_clip_count (letters_from (ref ∷ fs))
  unfolding suffix_clip_count
  few_letters fs h = rw (letters_cons ref fs, h) (go (spells_letters ref))
    where
      go : (v : Bool) → 0 ≡ suffix_clip_count (cond v (map capital ref ∷ []) [])
      go true = refl
      go false = refl

  pub ref_first : (fs : List (List ℕ)) → allele_as_read ref ≡ letters (map capital ref) → letters_from (ref ∷ fs) ≡ map capital ref ∷ letters_from fs
  unfolding filter_map letters_in
  ref_first fs h = rw h
