-- What is said of a sample without an allele x, by the sample's own values.
use Rattle.std.specs.Prelude.{◌+◌, ◌<◌, ◌^◌, ◌≤◌, ℕ, length, List, ◌≡◌}
use Rattle.std.proofs.Math.Option.{Option, map, none}
use Rattle.definitions.specs.CalledGenotypes.{gq_from_pl}
use Rattle.definitions.specs.CalledList.{called_data}
use Rattle.definitions.specs.Genotypes.{SampleData}
use Rattle.definitions.specs.Printed.{printed_values}
use Rattle.genotype_values.specs.Values.{present}
use Rattle.laws.proofs.Every.{IfThere}

-- what a record says of a sample with these values; an empty list stands for a missing one. (`called_data` uses neither GT, GQ nor MIN_DP.)
unfoldable pub own_values : Option ℕ → List ℕ → List ℕ → SampleData
own_values dp ad pl = record { gt = none; gq = none; dp = dp; mindp = none; ad = present ad; pl = present pl }

-- what is said of a sample whose values are without x already
unfoldable pub called_values : Option ℕ → List ℕ → List ℕ → SampleData
called_values dp ad pl = record { gt = none; gq = map gq_from_pl (present pl); dp = dp; mindp = none; ad = present ad; pl = present pl }

-- what `put_called_data` asks: x is one of 2 to 16 alleles, AD is missing or has an entry for each, and the offset behind the lines
-- fits a usize. (A place that PL does not have counts 0.)
pub record CalledPrintable (n x : ℕ) (dp : Option ℕ) (ad pl : List ℕ) (at : ℕ) : Type 0 where
  pub at_least : 2 ≤ n
  pub at_most : n ≤ 16
  pub dropped : x < n
  pub entries : IfThere (λ l. length l ≡ n) (present ad)
  pub fits : at + length (printed_values (called_data n x (own_values dp ad pl))) < 2 ^ 64
