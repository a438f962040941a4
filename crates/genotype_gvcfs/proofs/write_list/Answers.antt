-- The header, then the called records behind it.
use borrow.Author.Rules.{rules}
use native.Mathlib.Omega.{arith}
use Rattle.genotype_gvcfs.proofs.WrittenCalled.{count_low, list_written, writing}
use Rattle.genotype_gvcfs.proofs.write_list.Goals as goal

pub overflow_cast-count : goal.overflow_cast-count
overflow_cast-count c = omega (arith, count_low (c.requires.0))

pub put_header-from-requires : goal.put_header-from-requires
put_header-from-requires c = c.requires.0.header

pub genotype_gvcf_records-requires : goal.genotype_gvcf_records-requires
genotype_gvcf_records-requires c = writing (c.requires.0) _ (c.requires.1) c.put_header-from.ensures

pub returns : goal.returns
returns c = λ m. list_written m _ (c.requires.1) c.put_header-from.ensures _ c.genotype_gvcf_records.ensures
