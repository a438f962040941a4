-- In each turn a record is read behind those before it and laid if it is called; the groups from the next on are left.
use Rattle.genotype_gvcfs.proofs.Walking.{Going}
use Rattle.genotype_gvcfs.specs.Walk.{WalkReady}
use Rattle.genotype_gvcfs.proofs.genotype_gvcf_records.Given as goal

abbrev pub invariant-loop-read : goal.invariant-loop-read
invariant-loop-read l = (ready : WalkReady l.samples l.initial.rows l.initial.out l.from)
    → Going l.s l.at l.samples l.records ready l.out l.next l.read l.previous l.list
