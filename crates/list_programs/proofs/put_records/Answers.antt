-- The lines of the numbers from the next one on are left.
use Rattle.definitions.specs.Bytes.{text}
use Rattle.kv_write.proofs.Laying.{left_length}
use Rattle.list_programs.proofs.FoundLines.{line_laid, line_room, lines_laid, lines_start}
use Rattle.list_programs.proofs.put_records.Goals as goal

pub loop-n-init : goal.loop-n-init
loop-n-init c = lines_start _ _ c.requires

pub put_optional_number_line-at-requires : goal.put_optional_number_line-at-requires
unfolding text
put_optional_number_line-at-requires c = line_room _ c.loop-n.invariant c.loop-n-test.true c.record_number.ensures

pub loop-n-preserved : goal.loop-n-preserved
unfolding text
loop-n-preserved c = line_laid _ c.loop-n.invariant c.loop-n-test.true c.record_number.ensures
    c.put_optional_number_line-at.ensures

pub returns : goal.returns
returns c = lines_laid _ c.loop-n.invariant c.loop-n-test.false
