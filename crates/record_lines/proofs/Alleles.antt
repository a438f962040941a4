-- The ALTs of a record read back from their text with commas.
use Prim.Native.Nat.{◌≤◌, ℕ}
use lib.ListN.{length, length-map}
use mathlib.Core.List.{List, map}
use mathlib.Core.Path.{◌∙◌, ◌≡◌, ap, refl, sym}
use native.Mathlib.Omega.{arith}
use Rattle.definitions.specs.Alleles.{Allele, spelled, written_alleles}
use Rattle.definitions.specs.Bytes.{comma, fields_of}
use Rattle.definitions.specs.Lists.{is_there}
use Rattle.laws.proofs.AllelesAsRead.{allele_as_read_lem, allele_as_read}
use Rattle.laws.proofs.Every.{Every, also, every_map, every_of_map, nothing}
use Rattle.laws.proofs.Fields.{fields_joined}
use Rattle.laws.proofs.SoundValues.{SoundAllele}
use Rattle.laws.proofs.Tests.{some_same}
use Rattle.laws.proofs.ValuesReadBack.{allele_no_comma, allele_read_lem}
use Rattle.sample_alleles.specs.Readings.{alleles_in}

-- a sound allele is the one that its spelling is
spelled_back : (most : ℕ) (a : Allele) → SoundAllele most a → allele_as_read (spelled a) ≡ a
unfolding is_there
spelled_back most a h =
    let read = allele_read_lem most a h in
    some_same (sym (allele_as_read_lem most (spelled a) (rw read)) ∙ read)

all_back : (most : ℕ) {all : List Allele} → Every (SoundAllele most) all → map allele_as_read (map spelled all) ≡ all
all_back most nothing = refl
all_back most (also {x = a} h hs) = rw (spelled_back most a h, all_back most hs)

-- the fields of the text are their spellings
pub written_fields : (most : ℕ) {all : List Allele} → Every (SoundAllele most) all → 1 ≤ length all
    → fields_of comma (written_alleles all) ≡ map spelled all
unfolding written_alleles
written_fields most nothing least = absurd (omega arith)
written_fields most (also {x = a} h hs) least =
    fields_joined comma (every_of_map spelled (every_map (allele_no_comma most) (also {x = a} h hs)))

pub written_count : (most : ℕ) {all : List Allele} → Every (SoundAllele most) all → 1 ≤ length all
    → length (fields_of comma (written_alleles all)) ≡ length all
written_count most {all} h least = ap length (written_fields most h least) ∙ length-map all spelled

pub alleles_in_written : (most : ℕ) {all : List Allele} → Every (SoundAllele most) all → 1 ≤ length all
    → alleles_in (written_alleles all) ≡ all
alleles_in_written most h least = ap (map allele_as_read) (written_fields most h least) ∙ all_back most h
