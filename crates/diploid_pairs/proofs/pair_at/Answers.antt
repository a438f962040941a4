-- `diploid_pairs::pair_at` meets its contract.
-- Assumes nothing.
use Prim.Native.Nat.{◌<◌, ◌≤◌, ℕ}
use lib.ListN.{get_elem?, get_or, length}
use mathlib.Core.Bool.{true}
use mathlib.Core.List.{List}
use mathlib.Core.Path.{◌≡◌, sym}
use native.Mathlib.Omega.{arith}
use Rattle.std.specs.Option.{option_copied}
use Rattle.std.specs.Slice.{IsItemAt}
use Rattle.std.specs.Borrow.{Bor}
use Rattle.std.specs.Prelude.{None, Option, Some}
use Rattle.definitions.specs.Alleles.{genotype_count}
use Rattle.definitions.specs.Genotypes.{genotype_pairs}
use Rattle.diploid_pairs.specs.Pairs.{in_place, pair_of, passes_from}
use Rattle.diploid_pairs.specs.declared.AllelePair.{AllelePair}
use Rattle.diploid_pairs.proofs.Entries.{entry_pair}
use Rattle.diploid_pairs.proofs.Places.{no_pair_lem}
use Rattle.diploid_pairs.proofs.pair_at.Goals as goal

found : (table : List AllelePair) (place : ℕ) (r : Option (Bor AllelePair)) → length table ≡ 136 → passes_from 0 in_place table ≡ true
    → IsItemAt table place r → pair_of (option_copied r) ≡ get_elem? (genotype_pairs 16) place
unfolding pair_of genotype_count
found table place (Some p) l t h = sym (rw (← h.1) at (entry_pair table p.now place t h.3.0))
found table place None l t h = sym (no_pair_lem 16 place (omega (arith, h.3, l)))

pub returns : goal.returns
returns c = let l : length c.table.result ≡ 136 = omega arith in rw c.copied.ensures (found c.table.result c.args.place c.get.result l c.table.ensures c.get.ensures.lookup)
