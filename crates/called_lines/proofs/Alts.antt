-- ALTs with commas, without `<NON_REF>`: field by field.
-- Assumes nothing.
use Prim.Native.Nat.{◌+◌, ◌<◌, ◌^◌, ◌≤◌, ℕ}
use lib.ListN.{drop, length, length-append}
use mathlib.Core.Bool.{Bool, ◌||◌, cond, false, not, true}
use mathlib.Core.List.{List, [], ◌++◌, ◌∷◌, append-nil, flat_map, map}
use mathlib.Core.Path.{◌∙◌, ◌≡◌, ap, refl, sym}
use native.Mathlib.Decide.{dec_lt}
use native.Mathlib.Omega.{arith}
use Rattle.definitions.specs.Alleles.{capital, non_ref, same_allele, spelled, written_alleles}
use Rattle.definitions.specs.Bytes.{comma, fields_of, joined_by, line_feed, same_bytes, text}
use Rattle.definitions.specs.Lines.{key_of, line}
use Rattle.definitions.specs.Lists.{filter_by}
use Rattle.kv_text.proofs.Fields.{field_first, field_last}
use Rattle.kv_text.specs.Fields.{between, field_length}
use Rattle.kv_write.proofs.Laying.{Left, laid_append, last, recast, room, several, start}
use Rattle.kv_write.specs.Laid.{Laid}
use Rattle.laws.proofs.AllelesAsRead.{allele_as_read, as_read_spelled, non_ref_as_read}
use Rattle.called_lines.specs.Rows.{alt_behind, alt_line, called_alts}

-- ---- `<NON_REF>` by its bytes

pub non_ref_by_bytes : (f : List ℕ) → same_allele non_ref (allele_as_read f) ≡ same_bytes f (text "<NON_REF>")
unfolding spelled
non_ref_by_bytes f = non_ref_as_read f

-- ---- the other fields

abbrev other_fields : List (List ℕ) → List (List ℕ)
other_fields = filter_by (λ f. not (same_bytes f (text "<NON_REF>")))

-- as they are laid: letters as capitals
abbrev pub called_fields : List (List ℕ) → List (List ℕ)
called_fields fs = map (map capital) (other_fields fs)

called_spelled : (fs : List (List ℕ)) → map spelled (filter_by (λ a. not (same_allele non_ref a)) (map allele_as_read fs)) ≡ called_fields fs
unfolding filter_by
called_spelled [] = refl
called_spelled (f ∷ fs) = rw (non_ref_by_bytes f) (go (same_bytes f (text "<NON_REF>")) (called_spelled fs))
  where
    go : (b : Bool) → map spelled (filter_by (λ a. not (same_allele non_ref a)) (map allele_as_read fs)) ≡ called_fields fs
        → map spelled (cond (not b) (allele_as_read f ∷ filter_by (λ a. not (same_allele non_ref a)) (map allele_as_read fs)) (filter_by (λ a. not (same_allele non_ref a)) (map allele_as_read fs)))
        ≡ map (map capital) (cond (not b) (f ∷ other_fields fs) (other_fields fs))
    go true e = e
    go false e = rw (as_read_spelled f, e)

-- ---- their text

-- the fields with commas, behind others or not
unfoldable pub alts_behind : Bool → List (List ℕ) → List ℕ
alts_behind false fs = joined_by comma fs
alts_behind true fs = flat_map (λ f. comma ∷ f) fs

behind_first : (f : List ℕ) (fs : List (List ℕ)) → joined_by comma (f ∷ fs) ≡ f ++ flat_map (λ f. comma ∷ f) fs
unfolding joined_by flat_map
behind_first f [] = sym (append-nil f)
behind_first f (g ∷ fs) = rw (behind_first g fs)

behind_none : (others : Bool) → alts_behind others [] ≡ []
unfolding alts_behind joined_by flat_map
behind_none true = refl
behind_none false = refl

-- the first field, and the others behind it
behind_next : (others dropped : Bool) (f : List ℕ) (fs : List (List ℕ)) → dropped ≡ same_bytes f (text "<NON_REF>")
    → alts_behind others (called_fields (f ∷ fs)) ≡ alt_behind others dropped (map capital f) ++ alts_behind (others || not dropped) (called_fields fs)
unfolding alts_behind alt_behind filter_by flat_map
behind_next others dropped f fs e = rw (← e) (go others dropped)
  where
    go : (others dropped : Bool)
        → alts_behind others (map (map capital) (cond (not dropped) (f ∷ other_fields fs) (other_fields fs)))
        ≡ alt_behind others dropped (map capital f) ++ alts_behind (others || not dropped) (called_fields fs)
    go true true = refl
    go false true = refl
    go true false = refl
    go false false = behind_first (map capital f) (called_fields fs)

-- ---- the text of a list

module _ (alts : List ℕ) where
  pub record AltsLeft (d₀ : List ℕ) (at₀ : ℕ) (d : List ℕ) (at : ℕ) (others : Bool) (from : ℕ) : Type 0 where
    pub within : from ≤ length alts
    pub left : Left d₀ at₀ (called_alts alts) d at (alts_behind others (called_fields (fields_of 44 (drop from alts))))

  pub alts_start : {d : List ℕ} {at : ℕ} → at + length (called_alts alts) < 2 ^ 64 → AltsLeft d at d at false 0
  unfolding alts_behind comma written_alleles
  alts_start h = record {
    within = omega arith;
    left = recast (ap (joined_by 44) (called_spelled (fields_of 44 alts))) (start h);
  }

  module _ {d₀ d : List ℕ} {at₀ at from end : ℕ} {others dropped : Bool} (l : AltsLeft d₀ at₀ d at others from)
      (ends : end ≡ from + field_length 44 (drop from alts)) (e : dropped ≡ same_bytes (between alts from end) (text "<NON_REF>")) where
    field_more : end < length alts → Left d₀ at₀ (called_alts alts) d at (alt_behind others dropped (map capital (between alts from end))
        ++ alts_behind (others || not dropped) (called_fields (fields_of 44 (drop (end + 1) alts))))
    field_more h = recast (ap (λ (fs : List (List ℕ)). alts_behind others (called_fields fs)) (field_first 44 alts from end ends h)
        ∙ behind_next others dropped (between alts from end) (fields_of 44 (drop (end + 1) alts)) e) l.left

    field_ends : length alts ≤ end → Left d₀ at₀ (called_alts alts) d at (alt_behind others dropped (map capital (between alts from end)))
    unfolding filter_by
    field_ends h = recast (ap (λ (fs : List (List ℕ)). alts_behind others (called_fields fs)) (field_last 44 alts from end ends l.within h)
        ∙ behind_next others dropped (between alts from end) [] e
        ∙ ap (λ (t : List ℕ). alt_behind others dropped (map capital (between alts from end)) ++ t) (behind_none (others || not dropped))
        ∙ append-nil (alt_behind others dropped (map capital (between alts from end)))) l.left

    -- what the call that lays the field asks
    pub field_fits : at + length (alt_behind others dropped (map capital (between alts from end))) < 2 ^ 64
    field_fits = go (dec_lt end (length alts))
      where
        go : Dec (end < length alts) → at + length (alt_behind others dropped (map capital (between alts from end))) < 2 ^ 64
        go (yes h) = room (alt_behind others dropped (map capital (between alts from end))) _ (field_more h)
        go (no h) = (field_ends (omega arith)).fits

    module _ {d' : List ℕ} {at' : ℕ} (p : Laid d at (alt_behind others dropped (map capital (between alts from end))) d' at') where
      pub alts_next : {others' : Bool} → end < length alts → others' ≡ (others || not dropped) → AltsLeft d₀ at₀ d' at' others' (end + 1)
      alts_next h o = record { within = omega arith; left = rw o (several p (field_more h)) }

      pub alts_done : length alts ≤ end → Laid d₀ at₀ (called_alts alts) d' at'
      alts_done h = last p (field_ends h)

-- ---- the line

pub alt_line_length : (alts : List ℕ) → length (alt_line alts) ≡ 5 + length (called_alts alts)
unfolding line key_of text line_feed
alt_line_length alts = simp length-append (omega arith)

pub alt_line_laid : (alts : List ℕ) {d d1 d2 d3 : List ℕ} {at at1 at2 at3 : ℕ} → Laid d at (97 ∷ 108 ∷ 116 ∷ 61 ∷ []) d1 at1
    → Laid d1 at1 (called_alts alts) d2 at2 → Laid d2 at2 (10 ∷ []) d3 at3 → Laid d at (alt_line alts) d3 at3
unfolding line key_of text line_feed
alt_line_laid alts key value end = laid_append (laid_append key value) end

-- ---- one field

module _ (others dropped : Bool) (alt : List ℕ) where
  pub alt_dropped : dropped ≡ true → alt_behind others dropped alt ≡ []
  unfolding alt_behind
  alt_dropped e = rw e

  pub alt_first : dropped ≡ false → others ≡ false → alt_behind others dropped alt ≡ alt
  unfolding alt_behind
  alt_first e f = rw (e, f)

  pub alt_next : dropped ≡ false → others ≡ true → alt_behind others dropped alt ≡ (44 ∷ []) ++ alt
  unfolding alt_behind comma
  alt_next e f = rw (e, f)
