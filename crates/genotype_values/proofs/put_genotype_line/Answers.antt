-- By whether there is a genotype.
use borrow.Author.Rules.{rules}
use Rattle.definitions.specs.Bytes.{text}
use Rattle.definitions.specs.Lines.{key_of, line}
use Rattle.definitions.specs.Numbers.{written_or_missing}
use Rattle.diploid_pairs.specs.Pairs.{pair_of}
use Rattle.genotype_values.proofs.put_genotype_line.Goals as goal

pub put_pair_line-requires : goal.put_pair_line-requires
unfolding pair_of written_or_missing
put_pair_line-requires c = rw (c.low.ensures, c.high.ensures) (rw c.in-Some.is at c.requires)

pub put_missing_line-requires : goal.put_missing_line-requires
unfolding pair_of written_or_missing line key_of text
put_missing_line-requires c = rw c.in-None.is at c.requires

pub returns-in-Some : goal.returns-in-Some
unfolding pair_of written_or_missing
returns-in-Some c = rw c.in-Some.is (rw (c.low.ensures, c.high.ensures) at c.put_pair_line.ensures)

pub returns-in-None : goal.returns-in-None
unfolding pair_of written_or_missing line key_of text
returns-in-None c = rw c.in-None.is c.put_missing_line.ensures
