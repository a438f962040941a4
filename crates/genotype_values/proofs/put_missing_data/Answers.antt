-- The bytes are those that the definitions print.
use borrow.Author.Rules.{rules}
use Rattle.definitions.specs.Bytes.{line_feed, text}
use Rattle.definitions.specs.Genotypes.{missing_data}
use Rattle.definitions.specs.Lines.{key_of, line}
use Rattle.definitions.specs.Numbers.{written_or_missing}
use Rattle.definitions.specs.Printed.{printed_sample_data}
use Rattle.genotype_values.proofs.put_missing_data.Goals as goal

pub put_bytes-requires : goal.put_bytes-requires
unfolding printed_sample_data missing_data line key_of text written_or_missing line_feed
put_bytes-requires c = c.requires

pub returns : goal.returns
unfolding printed_sample_data missing_data line key_of text written_or_missing line_feed
returns c = c.put_bytes.ensures
