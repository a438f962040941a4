-- The letter where no site starts; else the longest REF, if the others are its prefixes.
use Rattle.merged_ref.proofs.Refs.{by_letter, conflict, shared}
use Rattle.merged_ref.proofs.Starting.{longest_is}
use Rattle.tables.specs.Tables.{part_at}
use Rattle.merged_ref.proofs.determine_reference_allele.Goals as goal

pub returns-in_default : goal.returns-in_default
returns-in_default c = let a = c.args in
    let f = rw c.in_default.is at (longest_is _ _ _ _ _ c.longest_ref.ensures) in
    by_letter _ _ a.reference.now _ _ a.found.now _ _ f c.ref_letter.ensures

pub returns-then-refs_agree : goal.returns-then-refs_agree
unfolding part_at
returns-then-refs_agree c = let a = c.args in
    let f = rw c.in-Some.is at (longest_is _ _ _ _ _ c.longest_ref.ensures) in
    let from = c.reference_allele_from-from.ensures in
    let to = c.reference_allele_to-to.ensures in
    let agree = rw (c.part-bytes.ensures, from, to) at c.refs_agree.ensures in
    rw (from, to) (shared _ _ _ _ _ a.found.now _ _ _ f agree c.if-refs_agree.true)

pub returns : goal.returns
unfolding part_at
returns c = let a = c.args in
    let f = rw c.in-Some.is at (longest_is _ _ _ _ _ c.longest_ref.ensures) in
    let from = c.reference_allele_from-from.ensures in
    let to = c.reference_allele_to-to.ensures in
    let agree = rw (c.part-bytes.ensures, from, to) at c.refs_agree.ensures in
    conflict _ _ _ _ _ a.found.now _ _ _ f agree c.if-refs_agree.false
