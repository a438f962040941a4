-- The place of the two mapped alleles.
use Prim.Native.Nat.{ℕ}
use borrow.Author.Rules.{rules}
use lib.ListN.{get_or}
use mathlib.Core.List.{List}
use mathlib.Core.Path.{◌≡◌}
use Rattle.definitions.specs.Genotypes.{genotype_index_any}
use Rattle.genotype_values.specs.Values.{mapped_place}
use Rattle.genotype_values.proofs.mapped_place.Goals as goal

of-alleles : (allele_map : List ℕ) (low high : ℕ) {a b r : ℕ} → a ≡ get_or allele_map low 0 → b ≡ get_or allele_map high 0
    → r ≡ genotype_index_any a b → r ≡ mapped_place allele_map (record { low = low; high = high })
unfolding mapped_place
of-alleles allele_map low high p q h = rw (h, p, q)

pub returns : goal.returns
returns c = of-alleles c.args.map.now _ _ c.mapped_allele-a.ensures c.mapped_allele-b.ensures c.place_of.ensures
