-- What a sample of a called record shows.
use Rattle.std.specs.Prelude.{ℕ, get_or, Bool, ◌&&◌, List, []}
use Rattle.std.proofs.Math.Option.{Option}
use Rattle.definitions.specs.Genotypes.{AllelePair}
use Rattle.definitions.specs.Lists.{any_of, numbers_from}
use Rattle.definitions.specs.SelectionSheet.{in_least_pair}
use Rattle.laws.proofs.Capitals.{same_letters}

abbrev pub no_pair : AllelePair
no_pair = record { low = 0; high = 0 }

-- one of so many alleles from a number on has the wanted letters, in either case, and some genotype of least PL has it; the places of
-- genotypes are those of 16 alleles
unfoldable pub shows_any : List ℕ → List (List ℕ) → Option (List ℕ) → ℕ → ℕ → Bool
shows_any wanted alleles pl first count =
    any_of (λ a. same_letters wanted (get_or alleles a []) && in_least_pair 16 a pl) (numbers_from first count)
