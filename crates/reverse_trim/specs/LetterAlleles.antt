-- The alleles that the fields of a list read as, and those of letters among them.
use Rattle.std.specs.Prelude.{ℕ, Bool}
use mathlib.Core.List.{List, filter_map, map}
use Rattle.definitions.specs.Alleles.{Allele}
use Rattle.definitions.specs.Bytes.{comma, fields_of}
use Rattle.definitions.specs.Lists.{is_there}
use Rattle.definitions.specs.ReverseTrim.{letters_in}
use Rattle.laws.proofs.AllelesAsRead.{allele_as_read}

-- a field spells a letter allele
unfoldable pub spells_letters : List ℕ → Bool
spells_letters f = is_there (letters_in (allele_as_read f))

-- the alleles of a list
unfoldable pub alleles_spelled : List ℕ → List Allele
alleles_spelled s = map allele_as_read (fields_of comma s)

-- the letters of its letter alleles, in capitals
unfoldable pub letters_spelled : List ℕ → List (List ℕ)
letters_spelled s = filter_map letters_in (alleles_spelled s)
