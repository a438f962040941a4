-- By whether the place has a pair.
use Prim.Native.Nat.{ℕ}
use mathlib.Core.List.{List}
use mathlib.Core.Option
use mathlib.Core.Option.{Option, none, some}
use mathlib.Core.Path.{◌≡◌}
use Rattle.std.specs.Prelude as std
use Rattle.definitions.specs.Genotypes.{AllelePair}
use Rattle.diploid_pairs.specs.Pairs.{pair_of}
use Rattle.diploid_pairs.specs.declared.AllelePair as source
use Rattle.genotype_values.specs.Values.{mapped_place}
use Rattle.genotype_values.proofs.genotype_index_map_diploid.Goals as goal

found : (allele_map : List ℕ) {pair : source.AllelePair} {low high r : ℕ} {o : Option AllelePair} → pair_of (std.Some pair) ≡ o → low ≡ pair.0 → high ≡ pair.1
    → r ≡ mapped_place allele_map (record { low = low; high = high }) → some r ≡ Option.map (mapped_place allele_map) o
unfolding pair_of
found allele_map e p q h = rw (← e, h, p, q)

missing : (allele_map : List ℕ) {o : Option AllelePair} → pair_of std.None ≡ o → none ≡ Option.map (mapped_place allele_map) o
unfolding pair_of
missing allele_map e = rw (← e)

pub returns : goal.returns
returns c = found c.args.map.now c.in_ok-pair.ensures c.low.ensures c.high.ensures c.mapped_place.ensures

pub returns-in_err-pair : goal.returns-in_err-pair
returns-in_err-pair c = rw c.from_residual.ensures (missing c.args.map.now c.in_err-pair.ensures)
