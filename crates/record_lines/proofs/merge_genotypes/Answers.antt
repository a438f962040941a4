-- The front of the entries.
use borrow.Author.Rules.{rules}
use Rattle.record_lines.proofs.OwnSamples.{front_count, front_printable}
use Rattle.record_lines.proofs.merge_genotypes.Goals as goal

pub slice_bounds-put_own_samples-end : goal.slice_bounds-put_own_samples-end
slice_bounds-put_own_samples-end c = front_count c.requires

pub put_own_samples-requires : goal.put_own_samples-requires
put_own_samples-requires c = (front_printable c.requires _ _, c.split_alts-alt_count.ensures.places)

pub returns : goal.returns
returns c = c.put_own_samples.ensures
