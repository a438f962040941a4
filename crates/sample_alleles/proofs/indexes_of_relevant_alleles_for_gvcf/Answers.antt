-- The site's alleles as a row of the table has them.
use native.Mathlib.Omega.{arith}
use Rattle.sample_alleles.proofs.Readings.{site_readings}
use borrow.Author.Rules.{rules}
use Rattle.sample_alleles.proofs.indexes_of_relevant_alleles_for_gvcf.Goals as goal

pub overflow_add-result : goal.overflow_add-result
overflow_add-result c = omega (arith, c.requires.room, c.well_formed.1.1.1.1.1.1.0.0)

pub returns : goal.returns
returns c = record { count = omega (arith, c.requires.counted); values = rw site_readings (rw (c.reference_allele-own.ensures, c.alternate_alleles-alternates.ensures, c.get.ensures, c.get-2.ensures, c.start_of.ensures) at (c.put_indexes.ensures)) }
