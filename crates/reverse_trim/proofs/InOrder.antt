-- Row 5: a list of alleles that is in order is what its fields read as.
use Prim.Native.Nat.{◌+◌, ◌-◌, ◌<◌, ◌≤◌, suc, ℕ}
use lib.Dec.{leb}
use lib.ListN.{drop, length, length-drop, take}
use lib.Seq.{take_all}
use mathlib.Core.Bool.{◌&&◌, false, true}
use mathlib.Core.List.{List, [], ◌∷◌, map}
use mathlib.Core.Option.{Option, bind, none, some}
use mathlib.Core.Path.{◌∙◌, ◌≡◌, ap, refl, sym}
use native.Mathlib.Nat.{sub-zero}
use native.Mathlib.Omega.{arith}
use Rattle.definitions.specs.Alleles.{RefAlts, allele_of, alleles_of, capital, checked_alleles, letters, letters_of, ref_alts_from, ref_alts_of}
use Rattle.definitions.specs.Bytes.{comma, fields_of}
use Rattle.definitions.specs.Checked.{◌>>=◌, accepted, is_accepted, or_refuse, refused}
use Rattle.definitions.specs.Limits.{max_alleles, max_letters}
use Rattle.definitions.specs.Lists.{all_distinct, all_of, all_some, any_of, is_there, only_if}
use Rattle.definitions.specs.ReverseTrim.{alleles_from}
use Rattle.kv_text.proofs.Fields.{field_first, field_last}
use Rattle.kv_text.specs.Fields.{field_length}
use Rattle.laws.proofs.AllelesAsRead.{allele_as_read, letters_as_read, none_twice, ref_alts_as_read_lem, ref_alts_as_read}
use Rattle.laws.proofs.Tests.{after_only_if, both_of, clash}

-- ---- ref_alts_from

module _ (most count : ℕ) (ref : List ℕ) (alts : List (List ℕ)) where
  -- REF is letters, and the alleles are those that the fields read as
  record AsRead (r : RefAlts) : Type 0 where
    ref_letters : allele_as_read ref ≡ letters (map capital ref)
    all_read : alleles_of r ≡ map allele_as_read (ref ∷ alts)

  as_read : (r : RefAlts) → ref_alts_from most count ref alts ≡ some r → AsRead r
  unfolding ref_alts_as_read alleles_of
  as_read r h = after_only_if _ _ (sym (ref_alts_as_read_lem most count ref alts) ∙ h) λ t e.
      let alts-right = all_of (λ f. is_there (allele_of most f)) alts && none_twice ref alts in
      let right = (both_of (leb (suc (length alts)) count) (is_there (letters_of most ref) && alts-right) t).1 in
      let known = letters_as_read most ref (both_of (is_there (letters_of most ref)) alts-right right).0 in
      record { ref_letters = known; all_read = rw (← e, known) }

-- ---- alleles_from

pub record InOrder (ref : List ℕ) (alts : List (List ℕ)) : Type 0 where
  pub ref_letters : allele_as_read ref ≡ letters (map capital ref)
  pub read : alleles_from (ref ∷ alts) ≡ accepted (map allele_as_read (ref ∷ alts))

pub in_order_lem : (ref : List ℕ) (alts : List (List ℕ)) → is_accepted (alleles_from (ref ∷ alts)) ≡ true → InOrder ref alts
unfolding alleles_from is_accepted or_refuse ◌>>=◌
in_order_lem ref alts h = go (ref_alts_from max_letters max_alleles ref alts) refl h
  where
    go : (o : Option RefAlts) → ref_alts_from max_letters max_alleles ref alts ≡ o
        → is_accepted (or_refuse 5 o >>= λ r. accepted (alleles_of r)) ≡ true → InOrder ref alts
    go none e h = clash h refl
    go (some r) e h =
        let known = as_read max_letters max_alleles ref alts r e in
        record { ref_letters = known.ref_letters; read = rw (e, known.all_read) }

pub not_in_order : (fs : List (List ℕ)) → is_accepted (alleles_from fs) ≡ false → alleles_from fs ≡ refused 5
unfolding alleles_from is_accepted or_refuse ◌>>=◌
not_in_order [] h = refl
not_in_order (ref ∷ alts) h = go (ref_alts_from max_letters max_alleles ref alts) h
  where
    go : (o : Option RefAlts) → is_accepted (or_refuse 5 o >>= λ r. accepted (alleles_of r)) ≡ false
        → (or_refuse 5 o >>= λ r. accepted (alleles_of r)) ≡ refused 5
    go none h = refl
    go (some r) h = clash refl h

ref_alts_accepted : (ref : List ℕ) (alts : List (List ℕ)) → is_there (ref_alts_from max_letters max_alleles ref alts) ≡ is_accepted (alleles_from (ref ∷ alts))
unfolding alleles_from is_accepted or_refuse ◌>>=◌ is_there
ref_alts_accepted ref alts = go (ref_alts_from max_letters max_alleles ref alts)
  where
    go : (o : Option RefAlts) → is_there o ≡ is_accepted (or_refuse 5 o >>= λ r. accepted (alleles_of r))
    go none = refl
    go (some r) = refl

-- REF alone is a list
ref_alone : (s : List ℕ) → is_there (letters_of max_letters s) ≡ is_there (ref_alts_from max_letters max_alleles s [])
unfolding ref_alts_from checked_alleles all_some alleles_of all_distinct any_of only_if is_there bind
ref_alone s = go (letters_of max_letters s)
  where
    go : (o : Option (List ℕ)) → is_there o ≡ is_there (bind o λ r. bind (all_some (map (allele_of max_letters) [])) λ as'. checked_alleles max_alleles (record { ref = r; alts = as' }))
    go none = refl
    go (some r) = refl

-- ---- the fields of a list, by where the first of them ends

-- the text from an offset on, as a part of a slice
abbrev pub rest_from : List ℕ → ℕ → List ℕ
rest_from s from = take (length s - from) (drop from s)

pub rest_is : (s : List ℕ) (from : ℕ) → rest_from s from ≡ drop from s
rest_is s from = take_all (length s - from) (drop from s) (rw (length-drop from s) (omega arith))

module _ (s : List ℕ) (end : ℕ) (ends : end ≡ 0 + field_length 44 (drop 0 s)) where
  pub fields_alone : length s ≤ end → fields_of comma s ≡ s ∷ []
  unfolding comma
  fields_alone h =
      field_last 44 s 0 end ends (omega arith) h ∙ ap (λ (f : List ℕ). f ∷ []) (take_all (end - 0) s (omega arith))

  pub fields_several : end < length s → fields_of comma s ≡ take end s ∷ fields_of comma (drop (end + 1) s)
  unfolding comma
  fields_several h = field_first 44 s 0 end ends h ∙ rw (sub-zero end)

  pub alone_accepted : length s ≤ end → is_there (letters_of max_letters s) ≡ is_accepted (alleles_from (fields_of comma s))
  alone_accepted h = rw (fields_alone h) (ref_alone s ∙ ref_alts_accepted s [])

  pub several_accepted : end < length s
      → is_there (ref_alts_of max_letters max_alleles (take end s) (drop (end + 1) s)) ≡ is_accepted (alleles_from (fields_of comma s))
  unfolding ref_alts_of
  several_accepted h = rw (fields_several h) (ref_alts_accepted (take end s) (fields_of comma (drop (end + 1) s)))

  -- by what `check_alleles` finds in the rest of the list
  module _ (h : end < length s) where
    pub several_right : {x : RefAlts} → ref_alts_of max_letters max_alleles (take end s) (rest_from s (end + 1)) ≡ some x
        → true ≡ is_accepted (alleles_from (fields_of comma s))
    unfolding is_there
    several_right e = ap is_there (sym e) ∙ rw (rest_is s (end + 1)) (several_accepted h)

    pub several_wrong : ref_alts_of max_letters max_alleles (take end s) (rest_from s (end + 1)) ≡ none → false ≡ is_accepted (alleles_from (fields_of comma s))
    unfolding is_there
    several_wrong e = ap is_there (sym e) ∙ rw (rest_is s (end + 1)) (several_accepted h)
