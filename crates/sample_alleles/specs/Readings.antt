-- A site's alleles as they read at a position, by the bytes that spell them and REF of the record, letters in either case.
use Rattle.std.specs.Prelude.{suc, zero, ℕ, eqb, ltb, set, Bool, cond, false, List, [], ◌∷◌, map}
use Rattle.std.proofs.Math.Option.{Option, some}
use Rattle.definitions.specs.Alleles.{Allele, capital, letters}
use Rattle.definitions.specs.Bytes.{comma, fields_of, same_bytes, text}
use Rattle.definitions.specs.Lists.{numbers_from, only_if}
use Rattle.definitions.specs.MergedAlleles.{extended_allele, is_allele, spanning_reading}
use Rattle.laws.proofs.AllelesAsRead.{allele_as_read}

-- letters in either case as capitals
abbrev pub capitals : List ℕ → List ℕ
capitals = map capital

-- the alleles that a text with commas spells
abbrev pub alleles_in : List ℕ → List Allele
alleles_in alts = map allele_as_read (fields_of comma alts)

-- REF of a site that starts at the position, or that starts earlier
unfoldable pub ref_reading : Bool → List ℕ → List ℕ → Option Allele
ref_reading starts ref own_ref = only_if starts (extended_allele (capitals ref) (capitals own_ref) (letters (capitals own_ref)))

-- an ALT of such a site
unfoldable pub alt_reading : Bool → List ℕ → List ℕ → List ℕ → Option Allele
alt_reading starts ref own_ref alt =
    cond starts (some (extended_allele (capitals ref) (capitals own_ref) (allele_as_read alt)))
    (spanning_reading (capitals own_ref) (allele_as_read alt))

-- its alleles by their numbers: `remapped_alleles` of the site (`site_readings` of proofs/Readings.antt)
unfoldable pub readings : Bool → List ℕ → List ℕ → List ℕ → List (Option Allele)
readings starts ref own_ref own_alts = ref_reading starts ref own_ref ∷ map (alt_reading starts ref own_ref) (fields_of comma own_alts)

-- an ALT of such a site that is not `<NON_REF>` reads as this allele
unfoldable pub reads_as : Bool → List ℕ → List ℕ → List ℕ → List ℕ → Bool
reads_as starts ref own_ref allele alt =
    cond (same_bytes alt (text "<NON_REF>")) false (is_allele (allele_as_read allele) (alt_reading starts ref own_ref alt))

-- of fields that are numbered from n on, the number of the first that passes a test, else another; none past 255 is looked at
unfoldable pub first_from : (List ℕ → Bool) → ℕ → ℕ → List (List ℕ) → ℕ
first_from p other n [] = other
first_from p other n (f ∷ fs) = let r = first_from p other (suc n) fs in cond (p f) n (cond (ltb n 255) r other)

-- the number of the first `<NON_REF>`: the one found before, unless that is 0, or the first of these fields
unfoldable pub non_ref_from : ℕ → ℕ → List (List ℕ) → ℕ
non_ref_from found n fs = cond (eqb found 0) (first_from (λ f. same_bytes f (text "<NON_REF>")) 0 n fs) found

-- the number for an allele of the record by the site's ALTs from number n on
unfoldable pub alt_number : Bool → List ℕ → List ℕ → ℕ → ℕ → List (List ℕ) → List ℕ → ℕ
alt_number starts ref own_ref found n fs allele = first_from (reads_as starts ref own_ref allele) (non_ref_from found n fs) n fs

-- a number for each of so many indexes
abbrev pub each_of : (ℕ → ℕ) → ℕ → List ℕ
each_of number count = map number (numbers_from 0 count)

-- a number stored, one place further on, for each of so many indexes from i on that passes a test
unfoldable pub put_where : (ℕ → Bool) → ℕ → ℕ → ℕ → List ℕ → List ℕ
put_where p number i zero values = values
put_where p number i (suc left) values = put_where p number (suc i) left (cond (p i) (set values (suc i) number) values)
