-- The lines one behind the other, each as long as its contract says.
use borrow.Author.Rules.{rules}
use native.Mathlib.Omega.{arith}
use Rattle.record_lines.proofs.Head.{head_laid, head_parts}
use Rattle.record_lines.proofs.put_record_head.Goals as goal

pub put_place-behind_place-requires : goal.put_place-behind_place-requires
put_place-behind_place-requires c = let args = c.args in
    record {
      pos = c.requires.pos;
      end = c.requires.end;
      fits = omega (arith, c.requires.fits, head_parts args.contig.now args.loc.start.0 args.loc.end.0 args.reference.now args.alts.now);
    }

pub put_line-behind_ref-requires : goal.put_line-behind_ref-requires
put_line-behind_ref-requires c = let args = c.args in
    omega (arith, c.requires.fits, c.put_place-behind_place.ensures.next, head_parts args.contig.now args.loc.start.0 args.loc.end.0 args.reference.now args.alts.now)

pub put_line-requires : goal.put_line-requires
put_line-requires c = let args = c.args in
    omega (arith, c.requires.fits, c.put_place-behind_place.ensures.next, c.put_line-behind_ref.ensures.next, head_parts args.contig.now args.loc.start.0 args.loc.end.0 args.reference.now args.alts.now)

pub returns : goal.returns
returns c = let args = c.args in
    head_laid args.contig.now args.loc.start.0 args.loc.end.0 args.reference.now args.alts.now
    c.put_place-behind_place.ensures c.put_line-behind_ref.ensures c.put_line.ensures
