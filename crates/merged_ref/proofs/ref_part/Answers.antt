-- By the answer.
use Rattle.merged_ref.specs.Answers.{ref_or}
use Rattle.merged_ref.proofs.ref_part.Goals as goal

pub returns-in-Allele : goal.returns-in-Allele
unfolding ref_or
returns-in-Allele c = rw (c.in-Allele.is) (c.part.ensures)

pub returns-in-Letter : goal.returns-in-Letter
unfolding ref_or
returns-in-Letter c = rw (c.in-Letter.is, ← c.letter.ensures) (c.part_or.ensures)
