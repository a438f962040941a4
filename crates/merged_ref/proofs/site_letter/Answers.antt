-- By whether REF is longer than the position lies behind the start.
use lib.ListN.{length}
use mathlib.Core.Path.{ap}
use native.Mathlib.Omega.{arith}
use Rattle.merged_ref.proofs.Letters.{part_room}
use Rattle.merged_ref.proofs.Reached.{reaches, too_short}
use Rattle.tables.specs.Tables.{column, part_at}
use Rattle.merged_ref.proofs.site_letter.Goals as goal

pub returns-then-allele-index : goal.returns-then-allele-index
returns-then-allele-index c = let a = c.args in
    let index = rw (c.get.ensures, c.get-2.ensures, c.start_of-start.ensures) at c.saturating_sub-index.ensures in
    let long = ap length c.reference_allele-allele.ensures in
    too_short a.s.now a.rows.now a.position.0 a.site (omega arith)

pub overflow_add-at : goal.overflow_add-at
unfolding part_at
overflow_add-at c = let a = c.args in
    let long = ap length c.reference_allele-allele.ensures in
    omega (arith, (part_room a.s.now (column 9 a.rows.now a.site) (column 10 a.rows.now a.site) c.saturating_sub-index.result (omega arith)).0)

pub returns : goal.returns
returns c = let a = c.args in
    let index = rw (c.get.ensures, c.get-2.ensures, c.start_of-start.ensures) at c.saturating_sub-index.ensures in
    let long = ap length c.reference_allele-allele.ensures in
    rw (c.reference_allele_from-from.ensures, index) (reaches a.s.now a.rows.now a.position.0 a.site (omega arith))
