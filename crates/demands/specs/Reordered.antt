-- The second cohort is the first in another order.
use Rattle.std.specs.Prelude.{ℕ, true, List, map, ◌≡◌}
use Rattle.definitions.specs.Bytes.{same_bytes}
use Rattle.definitions.specs.Cohort.{Cohort}
use Rattle.definitions.specs.Lists.{all_of, filter_by}
use Rattle.demands.specs.Inserted.{NamedSite, is_one_of, named}

-- the sites of the sample with this name, in their order
unfoldable pub sites_named : Cohort → List ℕ → List NamedSite
sites_named c n = filter_by (λ t. same_bytes n t.name) (map (named c.names) c.sites)

-- The names of each cohort are names of the other, and a sample has the same sites in both, in the same order. Sites of different
-- samples may stand in any order among each other.
pub record Reordered (first second : Cohort) : Type 0 where
  pub names_there : all_of (is_one_of second.names) first.names ≡ true
  pub names_back : all_of (is_one_of first.names) second.names ≡ true
  pub sites : map (sites_named first) first.names ≡ map (sites_named second) first.names
