-- No site before this one is on the contig.
use Prim.Native.Nat.{◌-◌}
use Rattle.cohort.proofs.Contigs.{NoneBefore}
use Rattle.cohort.proofs.contig_number.Given as goal

abbrev pub invariant-loop-site : goal.invariant-loop-site
invariant-loop-site l = NoneBefore l.s l.rows l.count l.contig l.site

abbrev pub decreases-loop-site : goal.decreases-loop-site
decreases-loop-site l = l.count - l.site
