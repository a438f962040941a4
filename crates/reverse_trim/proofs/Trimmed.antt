-- The trimmed alleles of a list, as they are written field by field.
use Prim.Native.Nat.{◌+◌, ◌-◌, ◌<◌, ◌^◌, ◌≤◌, ℕ}
use borrow.Author.Tests.{eqb-true}
use lib.Dec.{eqb}
use lib.ListN.{drop, length, length-append, length-map, length-take, take}
use mathlib.Core.Bool.{Bool, cond, false, true}
use mathlib.Core.List.{List, [], ◌++◌, ◌∷◌, map}
use mathlib.Core.Path.{◌∙◌, ◌≡◌, ap, refl, sym}
use native.Mathlib.Decide.{dec_lt}
use native.Mathlib.Omega.{arith}
use Rattle.definitions.specs.Alleles.{Allele, capital, letters, non_ref, span_del, spelled, written_alleles}
use Rattle.definitions.specs.Bytes.{comma, fields_of, joined_by}
use Rattle.definitions.specs.Lists.{is_there, split_where, to_first}
use Rattle.definitions.specs.ReverseTrim.{letters_in, without_suffix}
use Rattle.kv_text.proofs.Fields.{field_first, field_last}
use Rattle.kv_text.specs.Fields.{between, field_length}
use Rattle.kv_write.proofs.Laying.{Left, last, one, recast, room, several, start}
use Rattle.kv_write.specs.Laid.{Laid}
use Rattle.laws.proofs.Fields.{fields_cons}
use Rattle.laws.proofs.Tests.{clash}
use Rattle.laws.proofs.AllelesAsRead.{allele_as_read, as_read_spelled}
use Rattle.laws.proofs.Capitals.{capitals_front}
use Rattle.reverse_trim.specs.LetterAlleles.{spells_letters}

-- ---- the list is not longer than it was

-- fields with their commas are the text
joined_back : (s : List ℕ) → joined_by 44 (fields_of 44 s) ≡ s
unfolding joined_by fields_of split_where to_first
joined_back [] = refl
joined_back (b ∷ s) = let (f, fs, e) = fields_cons 44 s in rw e (go (eqb b 44) refl f fs (ap (joined_by 44) (sym e) ∙ joined_back s))
  where
    longer : (f : List ℕ) (fs : List (List ℕ)) → joined_by 44 ((b ∷ f) ∷ fs) ≡ b ∷ joined_by 44 (f ∷ fs)
    longer f [] = refl
    longer f (g ∷ fs) = refl

    go : (v : Bool) → eqb b 44 ≡ v → (f : List ℕ) (fs : List (List ℕ)) → joined_by 44 (f ∷ fs) ≡ s
        → joined_by 44 (cond v ([] ∷ f ∷ fs) (to_first b (f ∷ fs))) ≡ b ∷ s
    go true e f fs h = rw (h, eqb-true b 44 e)
    go false e f fs h = longer f fs ∙ rw h

-- a field as it is written
abbrev pub trimmed_field : ℕ → List ℕ → List ℕ
trimmed_field clip f = spelled (without_suffix clip (allele_as_read f))

-- fields as they are written
abbrev pub written : ℕ → List (List ℕ) → List ℕ
written clip fs = written_alleles (map (without_suffix clip) (map allele_as_read fs))

module _ (clip : ℕ) where
  -- letters, in capitals, lose their last, and others stay
  pub letters_trimmed : (f : List ℕ) → spells_letters f ≡ true → trimmed_field clip f ≡ map capital (take (length f - clip) f)
  unfolding spells_letters spelled without_suffix letters_in is_there
  letters_trimmed f h = go (allele_as_read f) (as_read_spelled f) h
    where
      go : (a : Allele) → spelled a ≡ map capital f → is_there (letters_in a) ≡ true
          → spelled (without_suffix clip a) ≡ map capital (take (length f - clip) f)
      go (letters s) e h = rw e (capitals_front f clip)
      go span_del e h = clash h refl
      go non_ref e h = clash h refl

  pub all_trimmed : (f : List ℕ) → spells_letters f ≡ true → length f ≤ clip → trimmed_field clip f ≡ []
  all_trimmed f h few = letters_trimmed f h ∙ (let none_left : length f - clip ≡ 0 = omega arith in rw none_left)

  pub others_stay : (f : List ℕ) → spells_letters f ≡ false → trimmed_field clip f ≡ map capital f
  unfolding spells_letters spelled without_suffix letters_in is_there
  others_stay f h = go (allele_as_read f) (as_read_spelled f) h
    where
      go : (a : Allele) → spelled a ≡ map capital f → is_there (letters_in a) ≡ false → spelled (without_suffix clip a) ≡ map capital f
      go (letters s) e h = clash refl h
      go span_del e h = e
      go non_ref e h = e

  allele_short : (a : Allele) → length (spelled (without_suffix clip a)) ≤ length (spelled a)
  unfolding spelled without_suffix
  allele_short (letters s) = omega (arith, length-take (length s - clip) s)
  allele_short span_del = omega arith
  allele_short non_ref = omega arith

  field_short : (f : List ℕ) → length (trimmed_field clip f) ≤ length f
  field_short f = omega (arith, allele_short (allele_as_read f), ap length (as_read_spelled f), length-map f capital)

  written_short : (fs : List (List ℕ)) → length (written clip fs) ≤ length (joined_by 44 fs)
  unfolding written_alleles joined_by
  written_short [] = omega arith
  written_short (f ∷ []) = field_short f
  written_short (f ∷ g ∷ fs) =
      simp length-append (omega (arith, field_short f, written_short (g ∷ fs)))

  -- one field with others behind it
  written_first : (f t : List ℕ) → written clip (f ∷ fields_of 44 t) ≡ trimmed_field clip f ++ (44 ∷ written clip (fields_of 44 t))
  unfolding written_alleles joined_by comma
  written_first f t = let (g, gs, e) = fields_cons 44 t in rw e

  written_last : (f : List ℕ) → written clip (f ∷ []) ≡ trimmed_field clip f
  unfolding written_alleles joined_by
  written_last f = refl

  -- ---- the loop over the fields

  module _ (list d₀ : List ℕ) where
    -- the fields from `at` on are left
    pub record TrimmedLeft (d : List ℕ) (next at : ℕ) : Type 0 where
      pub within : at ≤ length list
      pub left : Left d₀ 0 (written clip (fields_of comma list)) d next (written clip (fields_of 44 (drop at list)))

    pub trimmed_start : length list < 2 ^ 64 → TrimmedLeft d₀ 0 0
    unfolding comma
    trimmed_start h = record {
      within = omega arith;
      left = start (omega (arith, written_short (fields_of 44 list), ap length (joined_back list)));
    }

    module _ {d : List ℕ} {next at : ℕ} (l : TrimmedLeft d next at) (end : ℕ) (ends : end ≡ at + field_length 44 (drop at list)) where
      -- a field, and a comma and the others behind it
      first_left : end < length list
          → Left d₀ 0 (written clip (fields_of comma list)) d next
          (trimmed_field clip (between list at end) ++ (44 ∷ written clip (fields_of 44 (drop (end + 1) list))))
      first_left h = recast (ap (written clip) (field_first 44 list at end ends h) ∙ written_first (between list at end) (drop (end + 1) list)) l.left

      -- or the last field
      last_left : length list ≤ end → Left d₀ 0 (written clip (fields_of comma list)) d next (trimmed_field clip (between list at end))
      last_left h = recast (ap (written clip) (field_last 44 list at end ends l.within h) ∙ written_last (between list at end)) l.left

      pub field_room : next + length (trimmed_field clip (between list at end)) < 2 ^ 64
      field_room = go (dec_lt end (length list))
        where
          go : Dec (end < length list) → next + length (trimmed_field clip (between list at end)) < 2 ^ 64
          go (yes h) = room (trimmed_field clip (between list at end)) _ (first_left h)
          go (no h) = (last_left (omega arith)).fits

      module _ {d' : List ℕ} {next' : ℕ} (p : Laid d next (trimmed_field clip (between list at end)) d' next') where
        pub field_done : length list ≤ end → Laid d₀ 0 (written clip (fields_of comma list)) d' next'
        field_done h = last p (last_left h)

        pub comma_room : end < length list → next' + 1 < 2 ^ 64
        comma_room h = omega (arith, (several p (first_left h)).fits)

        pub field_more : {d'' : List ℕ} {next'' : ℕ} → end < length list → Laid d' next' (44 ∷ []) d'' next'' → TrimmedLeft d'' next'' (end + 1)
        field_more h q = record { within = omega arith; left = one q (several p (first_left h)) }
