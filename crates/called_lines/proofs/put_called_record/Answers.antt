-- The lines before the samples', and the samples'.
use borrow.Author.Rules.{rules}
use Rattle.called_lines.proofs.Called.{called_number, head_fits, record_laid, samples_printable}
use Rattle.called_lines.proofs.put_called_record.Goals as goal

pub put_called_head-behind_head-requires : goal.put_called_head-behind_head-requires
put_called_head-behind_head-requires c = head_fits _ _ _ _ _ _ _ c.requires (called_number _ _ _ _ _ _ _ c.requires (c.non_ref_number-dropped.ensures _))

pub put_called_samples-requires : goal.put_called_samples-requires
put_called_samples-requires c = samples_printable _ _ _ _ _ _ _ c.requires (called_number _ _ _ _ _ _ _ c.requires (c.non_ref_number-dropped.ensures _))
    c.put_called_head-behind_head.ensures

pub returns : goal.returns
returns c = record_laid _ _ _ _ _ _ _ c.requires (called_number _ _ _ _ _ _ _ c.requires (c.non_ref_number-dropped.ensures _))
    c.put_called_head-behind_head.ensures c.put_called_samples.ensures
