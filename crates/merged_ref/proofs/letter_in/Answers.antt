-- By the tests.
use mathlib.Core.Path.{◌∙◌, sym}
use native.Mathlib.Omega.{arith}
use Rattle.merged_ref.proofs.LetterPlaces.{at_index, off_contig, too_early, too_late}
use Rattle.merged_ref.proofs.Letters.{part_room}
use Rattle.merged_ref.proofs.letter_in.Goals as goal

pub returns-then-not-same_bytes : goal.returns-then-not-same_bytes
returns-then-not-same_bytes c = let a = c.args in
    let off = sym (rw c.part-own.ensures at c.same_bytes.ensures) ∙ c.if-not-same_bytes.true in
    off_contig a.reference.now a.contig.now _ a.name.at a.name.end a.first.0 a.bases.at a.bases.end off

pub returns-then-wanted-from : goal.returns-then-wanted-from
returns-then-wanted-from c = let a = c.args in
    let on = sym (rw c.part-own.ensures at c.same_bytes.ensures) ∙ c.if-not-same_bytes.false in
    let early = rw (c.get-wanted.ensures, c.get-from.ensures) at c.if-wanted-from.true in
    too_early a.reference.now a.contig.now _ a.name.at a.name.end a.first.0 a.bases.at a.bases.end on early

pub returns-then-letters-index : goal.returns-then-letters-index
returns-then-letters-index c = let a = c.args in
    let on = sym (rw c.part-own.ensures at c.same_bytes.ensures) ∙ c.if-not-same_bytes.false in
    let wanted = c.get-wanted.ensures in
    let from = c.get-from.ensures in
    let low = rw (wanted, from) at c.if-wanted-from.false in
    let late = rw (c.part-letters.ensures, wanted, from) at c.if-letters-index.true in
    too_late a.reference.now a.contig.now _ a.name.at a.name.end a.first.0 a.bases.at a.bases.end on low late

pub overflow_add-result : goal.overflow_add-result
overflow_add-result c = omega (arith, (part_room c.args.reference.now c.args.bases.at c.args.bases.end _ (rw c.part-letters.ensures at c.if-letters-index.false)).0)

pub returns : goal.returns
returns c = let a = c.args in
    let on = sym (rw c.part-own.ensures at c.same_bytes.ensures) ∙ c.if-not-same_bytes.false in
    let wanted = c.get-wanted.ensures in
    let from = c.get-from.ensures in
    let low = rw (wanted, from) at c.if-wanted-from.false in
    let inside = rw (c.part-letters.ensures, wanted, from) at c.if-letters-index.false in
    rw (wanted, from)
    (at_index a.reference.now a.contig.now _ a.name.at a.name.end a.first.0 a.bases.at a.bases.end on low inside)
