-- The first field of a text by its length: what code by offsets knows of fields.
use Prim.Native.Nat.{◌+◌, ◌-◌, ◌<◌, ◌≤◌, suc, zero, ℕ}
use borrow.Author.Tests.{eq-eqb, ne_eqb}
use lib.ListN.{drop, get_or, length, length-drop, take}
use lib.Seq.{drop-nil, get_or-drop, take_all, take-nil}
use mathlib.Core.List.{List, [], ◌∷◌}
use mathlib.Core.Logic.{◌≢◌}
use mathlib.Core.Path.{◌∙◌, ◌≡◌, ap, refl, sym}
use native.Mathlib.Decide.{ℕ_discrete}
use native.Mathlib.Nat.{suc-sub-suc, sub-zero, zero-sub}
use native.Mathlib.Numerals.{add-one}
use native.Mathlib.Omega.{arith}
use Rattle.definitions.specs.Bytes.{fields_of}
use Rattle.definitions.specs.Lists.{split_where, to_first}
use Rattle.laws.proofs.Every.{also, nothing}
use Rattle.laws.proofs.Fields.{Free, fields_at, fields_cons, fields_last}
use Rattle.kv_text.specs.Fields.{between, field_length, first_field}

-- ---- byte by byte

module _ (separator : ℕ) where
  pub first_none : first_field separator [] ≡ []
  unfolding first_field fields_of split_where
  first_none = refl

  pub first_stop : (b : ℕ) (s : List ℕ) → b ≡ separator → first_field separator (b ∷ s) ≡ []
  unfolding first_field fields_of split_where
  first_stop b s e = simp (eq-eqb b separator e)

  pub first_more : (b : ℕ) (s : List ℕ) → b ≢ separator → first_field separator (b ∷ s) ≡ b ∷ first_field separator s
  unfolding first_field fields_of split_where to_first
  first_more b s n = let (f, fs, e) = fields_cons separator s in simp (ne_eqb b separator n, e)

  -- the same of its length
  pub field_none : field_length separator [] ≡ 0
  unfolding field_length
  field_none = ap length first_none

  pub field_stop : (b : ℕ) (s : List ℕ) → b ≡ separator → field_length separator (b ∷ s) ≡ 0
  unfolding field_length
  field_stop b s e = ap length (first_stop b s e)

  pub field_more : (b : ℕ) (s : List ℕ) → b ≢ separator → field_length separator (b ∷ s) ≡ suc (field_length separator s)
  unfolding field_length
  field_more b s n = ap length (first_more b s n)

  pub first_of : (s : List ℕ) → (fs : List (List ℕ)) × (fields_of separator s ≡ first_field separator s ∷ fs)
  unfolding first_field
  first_of s = let (f, fs, e) = fields_cons separator s in (fs, rw e)

  -- so many bytes of the text
  first_take : (s : List ℕ) → first_field separator s ≡ take (field_length separator s) s
  first_take [] = rw (first_none, field_none)
  first_take (b ∷ s) = go (ℕ_discrete b separator) (first_take s)
    where
      go : Dec (b ≡ separator) → first_field separator s ≡ take (field_length separator s) s
          → first_field separator (b ∷ s) ≡ take (field_length separator (b ∷ s)) (b ∷ s)
      go (yes e) r = rw (first_stop b s e, field_stop b s e)
      go (no n) r = rw (first_more b s n, field_more b s n) (ap (λ (f : List ℕ). b ∷ f) r)

  -- the whole text, where it is as long
  pub first_whole : (s : List ℕ) → length s ≤ field_length separator s → first_field separator s ≡ s
  first_whole s h = first_take s ∙ take_all (field_length separator s) s h

  -- ---- its end

  -- the first field is not longer than the text, has no separator, and if the text goes on a separator stands behind it
  record FirstField (s : List ℕ) : Type 0 where
    short : field_length separator s ≤ length s
    free : Free separator (take (field_length separator s) s)
    ended : field_length separator s < length s → get_or s (field_length separator s) 0 ≡ separator

  first_field_lem : (s : List ℕ) → FirstField s
  first_field_lem [] = record {
    short = rw field_none (omega arith);
    free = rw field_none nothing;
    ended = λ h. absurd (omega arith);
  }
  first_field_lem (b ∷ s) = go (ℕ_discrete b separator) (first_field_lem s)
    where
      go : Dec (b ≡ separator) → FirstField s → FirstField (b ∷ s)
      go (yes e) r = record {
        short = rw (field_stop b s e) (omega arith);
        free = rw (field_stop b s e) nothing;
        ended = λ h. rw (field_stop b s e) e;
      }
      go (no n) r = record {
        short = rw (field_more b s n) (omega (arith, r.short));
        free = rw (field_more b s n) (also n r.free);
        ended = λ h. rw (field_more b s n) (r.ended (omega (arith, field_more b s n)));
      }

  -- ---- at an offset

  module _ (s : List ℕ) (at e : ℕ) (ends : e ≡ at + field_length separator (drop at s)) where
    len : field_length separator (drop at s) ≡ e - at
    len = omega arith

    pub field_forward : at ≤ e
    field_forward = omega arith

    pub field_within : at ≤ length s → e ≤ length s
    field_within h = omega (arith, (first_field_lem (drop at s)).short, length-drop at s)

    pub first_between : first_field separator (drop at s) ≡ between s at e
    first_between = rw (← len) (first_take (drop at s))

    pub field_has_none : Free separator (between s at e)
    field_has_none = rw (← len) (first_field_lem (drop at s)).free

    -- a separator stands behind it if the text goes on
    pub field_ended : e < length s → get_or s e 0 ≡ separator
    field_ended h =
        let inside : field_length separator (drop at s) < length (drop at s) = omega (arith, length-drop at s) in
        ap (λ (k : ℕ). get_or s k 0) ends ∙ sym (get_or-drop at s (field_length separator (drop at s)) 0)
        ∙ (first_field_lem (drop at s)).ended inside

    -- a field with others behind it
    pub field_first : e < length s → fields_of separator (drop at s) ≡ between s at e ∷ fields_of separator (drop (e + 1) s)
    field_first h =
        let fits : at + (e - at) ≡ e = omega arith in
        fields_at separator s at (e - at) (omega arith) field_has_none (rw fits (field_ended h)) ∙ rw (fits, add-one e)

    -- the last field
    pub field_last : at ≤ length s → length s ≤ e → fields_of separator (drop at s) ≡ between s at e ∷ []
    field_last h l = fields_last separator s at (e - at) (omega (arith, field_within h)) field_has_none

-- a part of a part
pub drop_take : (k n : ℕ) (s : List ℕ) → drop k (take n s) ≡ take (n - k) (drop k s)
drop_take zero n s = rw sub-zero
drop_take (suc k) zero s = rw (zero-sub, drop-nil)
drop_take (suc k) (suc n) [] = rw take-nil
drop_take (suc k) (suc n) (b ∷ s) = rw suc-sub-suc (drop_take k n s)
