-- The lines one behind the other, each as long as its contract says.
use borrow.Author.Rules.{rules}
use native.Mathlib.Omega.{arith}
use Rattle.definitions.specs.Numbers.{max_number}
use Rattle.record_lines.proofs.Head.{place_laid, place_length}
use Rattle.record_lines.proofs.put_place.Goals as goal

pub overflow_cast-pos : goal.overflow_cast-pos
unfolding max_number
overflow_cast-pos c = omega (arith, c.get-pos.ensures, c.requires.pos)

pub end_from-end-requires : goal.end_from-end-requires
end_from-end-requires c = c.requires.end

pub put_line-behind_contig-requires : goal.put_line-behind_contig-requires
put_line-behind_contig-requires c = let args = c.args in
    let whole = place_length args.contig.now args.loc.start.0 args.loc.end.0 in
    omega (arith, c.requires.fits, whole)

pub put_number_line-behind_pos-requires : goal.put_number_line-behind_pos-requires
put_number_line-behind_pos-requires c = let args = c.args in
    let whole = place_length args.contig.now args.loc.start.0 args.loc.end.0 in
    rw c.get-pos.ensures (omega (arith, c.requires.fits, c.put_line-behind_contig.ensures.next, whole))

pub put_optional_number_line-requires : goal.put_optional_number_line-requires
put_optional_number_line-requires c = let args = c.args in
    let whole = place_length args.contig.now args.loc.start.0 args.loc.end.0 in
    let pos = rw c.get-pos.ensures at c.put_number_line-behind_pos.ensures in
    rw c.end_from-end.ensures (omega (arith, c.requires.fits, c.put_line-behind_contig.ensures.next, pos.next, whole))

pub returns : goal.returns
returns c = let args = c.args in
    let pos = rw c.get-pos.ensures at c.put_number_line-behind_pos.ensures in
    let end = rw c.end_from-end.ensures at c.put_optional_number_line.ensures in
    place_laid args.contig.now args.loc.start.0 args.loc.end.0 c.put_line-behind_contig.ensures pos end
