-- By whether the place has a pair.
use Prim.Native.Nat.{ℕ}
use borrow.Author.Rules.{rules}
use lib.Ieee.{Float, odd, of_bits, of_fields}
use lib.ListN.{get_or, get_elem?}
use mathlib.Core.List.{List}
use mathlib.Core.Option
use mathlib.Core.Option.{Option, none, some}
use mathlib.Core.Path.{◌≡◌, refl, sym}
use Rattle.std.specs.Prelude as std
use Rattle.answers.specs.Options.{option_of}
use Rattle.allele_subsetting_pl.specs.KeepLists.{absent_likelihood}
use Rattle.definitions.specs.Genotypes.{AllelePair, genotype_pairs}
use Rattle.genotype_values.specs.Values.{mapped_place}
use Rattle.laws.proofs.Tests.{not_none, some_same}
use Rattle.allele_subsetting_pl.proofs.mapped_likelihood.Goals as goal

found : (gl : List Float) (place : AllelePair → ℕ) (o : Option AllelePair) (k : ℕ) {x : Float} → option_of (std.Some k) ≡ Option.map place o
    → x ≡ get_or gl k absent_likelihood → x ≡ Option.get_or (Option.map (λ p. get_or gl (place p) absent_likelihood) o) absent_likelihood
found gl place none k e h = not_none (sym e)
found gl place (some p) k e h = rw (← some_same e) h

missing : (gl : List Float) (place : AllelePair → ℕ) (o : Option AllelePair) → option_of {A = ℕ} std.None ≡ Option.map place o
    → absent_likelihood ≡ Option.get_or (Option.map (λ p. get_or gl (place p) absent_likelihood) o) absent_likelihood
missing gl place none e = refl
missing gl place (some p) e = not_none e

pub returns-in-Some : goal.returns-in-Some
unfolding of_bits of_fields odd
returns-in-Some c = found c.args.gl.now (mapped_place c.args.map.now) (get_elem? (genotype_pairs 16) c.args.place) c.in-Some.old
    c.in-Some.ensures c.value_or.ensures

pub returns-in-None : goal.returns-in-None
unfolding of_bits of_fields odd
returns-in-None c = missing c.args.gl.now (mapped_place c.args.map.now) (get_elem? (genotype_pairs 16) c.args.place) c.in-None.ensures
