-- The number of the first reading that passes a test, field by field: what the fields from one on give is what all give.
use Prim.Native.Nat.{◌+◌, ◌-◌, ◌<◌, ◌≤◌, suc, ℕ}
use lib.ListN.{drop, length, take}
use lib.Seq.{take-nil}
use mathlib.Core.Bool.{Bool, false, true}
use mathlib.Core.List.{List, [], ◌∷◌, map}
use mathlib.Core.Option
use mathlib.Core.Option.{Option, get_or, none, some}
use mathlib.Core.Path.{◌∙◌, ◌≡◌, ap, refl, sym}
use native.Mathlib.Decide.{dec_lt}
use native.Mathlib.Omega.{arith}
use Rattle.definitions.specs.Bytes.{comma, fields_of}
use Rattle.definitions.specs.Lists.{index_where}
use Rattle.kv_text.proofs.Fields.{field_first, field_last}
use Rattle.kv_text.specs.Fields.{between, field_length}

-- an index counted from n, or another number for none
abbrev pub numbered : ℕ → ℕ → Option ℕ → ℕ
numbered n other i = get_or (Option.map (λ k. n + k) i) other

numbered_next : (n other : ℕ) (i : Option ℕ) → numbered n other (Option.map suc i) ≡ numbered (n + 1) other i
numbered_next n other none = refl
numbered_next n other (some k) = omega arith

pub numbered_one : (other : ℕ) (i : Option ℕ) → numbered 1 other i ≡ get_or (Option.map suc i) other
numbered_one other none = refl
numbered_one other (some k) = omega arith

module _ {A : Type 0} (p : A → Bool) (reading : List ℕ → A) (other : ℕ) where
  -- by the fields of the alleles from number n on; no number is past 255
  unfoldable pub from : ℕ → List (List ℕ) → ℕ
  from n fs = numbered n other (index_where p (take (256 - n) (map reading fs)))

  module _ (n : ℕ) (f : List ℕ) (fs : List (List ℕ)) where
    pub passes : n ≤ 255 → p (reading f) ≡ true → from n (f ∷ fs) ≡ n
    unfolding from index_where
    passes l h = let e : 256 - n ≡ suc (255 - n) = omega arith in rw (e, h) (omega arith)

    pub fails : n < 255 → p (reading f) ≡ false → from n (f ∷ fs) ≡ from (n + 1) fs
    unfolding from index_where
    fails l h = let e : 256 - n ≡ suc (256 - (n + 1)) = omega arith in rw (e, h) (numbered_next n other (index_where p (take (256 - (n + 1)) (map reading fs))))

    pub fails_last : n ≡ 255 → p (reading f) ≡ false → from n (f ∷ fs) ≡ other
    unfolding from index_where
    fails_last l h = rw (l, h)

  fails_alone : (n : ℕ) (f : List ℕ) → n ≤ 255 → p (reading f) ≡ false → from n (f ∷ []) ≡ other
  unfolding from index_where
  fails_alone n f l h = let e : 256 - n ≡ suc (255 - n) = omega arith in rw (e, h, take-nil {A = A} (255 - n))

  module _ (s : List ℕ) (whole : ℕ) where
    -- the fields from `at` on, of alleles from number n on, give the whole
    pub record Unread (at n : ℕ) : Type 0 where
      pub within : at ≤ length s
      pub least : 1 ≤ n
      pub most : n ≤ 255
      pub same : from n (fields_of 44 (drop at s)) ≡ whole

    pub alts_unread : (x : A) → p x ≡ false → get_or (index_where p (take 256 (x ∷ map reading (fields_of comma s)))) other ≡ whole → Unread 0 1
    unfolding comma index_where from
    alts_unread x h e = record {
      within = omega arith;
      least = omega arith;
      most = omega arith;
      same = numbered_one other (index_where p (take 255 (map reading (fields_of 44 s)))) ∙ rw h at e;
    }

    module _ (at end n : ℕ) (u : Unread at n) (ends : end ≡ at + field_length 44 (drop at s)) where
      pub reading_found : p (reading (between s at end)) ≡ true → n ≡ whole
      reading_found h = go (dec_lt end (length s))
        where
          go : Dec (end < length s) → n ≡ whole
          go (yes l) = sym (passes n _ _ u.most h) ∙ ap (from n) (sym (field_first 44 s at end ends l)) ∙ u.same
          go (no l) = sym (passes n _ _ u.most h) ∙ ap (from n) (sym (field_last 44 s at end ends u.within (omega arith))) ∙ u.same

      module _ (h : p (reading (between s at end)) ≡ false) where
        pub all_read : length s ≤ end → other ≡ whole
        all_read l = sym (fails_alone n _ u.most h) ∙ ap (from n) (sym (field_last 44 s at end ends u.within l)) ∙ u.same

        module _ (l : end < length s) where
          pub no_number : n ≡ 255 → other ≡ whole
          no_number e = sym (fails_last n _ _ e h) ∙ ap (from n) (sym (field_first 44 s at end ends l)) ∙ u.same

          pub next_unread : (n ≡ 255 → ⊥) → Unread (end + 1) (n + 1)
          next_unread k =
              let m : n < 255 = omega (arith, u.most, k) in
              record {
                within = omega arith;
                least = omega arith;
                most = omega arith;
                same = sym (fails n _ _ m h) ∙ ap (from n) (sym (field_first 44 s at end ends l)) ∙ u.same;
              }
