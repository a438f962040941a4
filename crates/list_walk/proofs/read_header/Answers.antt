-- The samples, and then the line `records`.
use Rattle.list_walk.proofs.Headings.{heading_read, samples_refused}
use Rattle.list_walk.specs.Walk.{HeaderRead}
use Rattle.sample_names.specs.Header.{Header}
use native.Mathlib.Omega.{arith}
use Rattle.list_walk.proofs.read_header.Goals as goal

pub returns-in-Ok : goal.returns-in-Ok
unfolding Header
returns-in-Ok c = let h = rw c.in-Ok.is at c.read_samples.ensures in heading_read h _ _ (omega arith) c.records_line.ensures

pub returns-in-Err-Refused : goal.returns-in-Err-Refused
unfolding Header HeaderRead
returns-in-Err-Refused c = let h = rw c.in-Err-Refused.field-0-is at c.in-Err-Refused.ensures in
    record { value = samples_refused _ _ h.value; cleared = h.cleared }

pub returns-in-Err-NoRoom : goal.returns-in-Err-NoRoom
unfolding Header
returns-in-Err-NoRoom c = let h = rw c.in-Err-NoRoom.field-0-is at c.in-Err-NoRoom.ensures in absurd (omega (arith, h.no_room))
