-- Row 5 by the bytes of REF and of the fields.
use Prim.Native.Nat.{suc, ℕ}
use lib.Dec.{leb}
use lib.ListN.{length}
use mathlib.Core.Bool.{◌&&◌}
use mathlib.Core.List.{List, [], ◌∷◌, map}
use mathlib.Core.Path.{◌≡◌, refl}
use Rattle.definitions.specs.Alleles.{allele_of, has_non_ref, letters_of, non_ref, ref_alts_of, same_allele, spelled}
use Rattle.definitions.specs.Bytes.{comma, fields_of, same_bytes, text}
use Rattle.definitions.specs.Lists.{all_of, any_of, is_there, only_if}
use Rattle.laws.proofs.AllelesAsRead.{allele_as_read, non_ref_as_read, none_twice, ref_alts_as_read_lem, ref_alts_as_read}
use Rattle.laws.proofs.Bytes.{same_flip}

-- by the number of fields, by their spelling, and by the letters of REF and the fields
pub checked : (most count : ℕ) (ref alt : List ℕ) → ref_alts_of most count ref alt
    ≡ only_if
    (leb (suc (length (fields_of comma alt))) count
    && (is_there (letters_of most ref)
    && (all_of (λ f. is_there (allele_of most f)) (fields_of comma alt) && none_twice ref (fields_of comma alt))))
    (ref_alts_as_read ref (fields_of comma alt))
unfolding ref_alts_of
checked most count ref alt = ref_alts_as_read_lem most count ref (fields_of comma alt)

-- `<NON_REF>`, which has this spelling alone, among fields
any_non_ref : (fs : List (List ℕ)) → any_of (same_bytes (text "<NON_REF>")) fs ≡ any_of (same_allele non_ref) (map allele_as_read fs)
unfolding any_of spelled
any_non_ref [] = refl
any_non_ref (f ∷ fs) = rw (same_flip (text "<NON_REF>") f, ← non_ref_as_read f, any_non_ref fs)

pub has_non_ref_lem : (ref alt : List ℕ) → any_of (same_bytes (text "<NON_REF>")) (fields_of comma alt) ≡ has_non_ref (ref_alts_as_read ref (fields_of comma alt))
unfolding has_non_ref ref_alts_as_read
has_non_ref_lem ref alt = any_non_ref (fields_of comma alt)
