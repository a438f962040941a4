-- PL without an allele x.
use Rattle.std.specs.Prelude.{suc, ℕ, leb, ltb, length, Bool, ◌&&◌, cond, List, map, ◌≡◌}
use Rattle.std.proofs.lemmas.List.Edits.{sets}
use Rattle.definitions.specs.CalledGenotypes.{pl_without_allele, pl_without_allele_at}
use Rattle.definitions.specs.Genotypes.{AllelePair, genotype_pairs}

-- the number among all alleles of an allele of those without x
unfoldable pub retained_allele : ℕ → ℕ → ℕ
retained_allele x a = cond (ltb a x) a (suc a)

-- PL at a pair of those without x
unfoldable pub retained_pl_at : List ℕ → ℕ → AllelePair → ℕ
retained_pl_at pl x p = pl_without_allele_at pl x (retained_allele x p.low) (retained_allele x p.high)

-- PL of so many alleles besides x; with the least subtracted it is `pl_without_allele` (`folded_is` of proofs/Folded.antt)
unfoldable pub folded_pl : ℕ → ℕ → List ℕ → List ℕ
folded_pl retained x pl = map (retained_pl_at pl x) (genotype_pairs retained)

-- n alleles, 2 to 16, of which x is one
unfoldable pub is_dropped : ℕ → ℕ → Bool
is_dropped n x = leb 2 n && leb n 16 && ltb x n

-- PL of such alleles without x is laid over what stood there, and r says how many values it has; others change nothing and have none
pub record PlWithout (n x : ℕ) (pl before after : List ℕ) (r : ℕ) : Type 0 where
  pub values : after ≡ cond (is_dropped n x) (sets before 0 (pl_without_allele n x pl)) before
  pub count : r ≡ cond (is_dropped n x) (length (pl_without_allele n x pl)) 0
