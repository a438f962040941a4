-- The lines one behind the other, each as long as its contract says.
use borrow.Author.Rules.{rules}
use native.Mathlib.Omega.{arith}
use Rattle.called_lines.proofs.Called.{head_laid, head_length}
use Rattle.definitions.specs.Numbers.{max_number}
use Rattle.called_lines.proofs.put_called_head.Goals as goal

pub overflow_cast-number : goal.overflow_cast-number
unfolding max_number
overflow_cast-number c = omega (arith, c.get-number.ensures, c.requires.position)

pub put_line-behind_contig-requires : goal.put_line-behind_contig-requires
put_line-behind_contig-requires c = omega (
  arith,
  c.requires.fits,
  head_length c.args.contig.now c.args.pos.0 c.args.reference.now
      c.args.alts.now,
)

pub put_number_line-behind_pos-requires : goal.put_number_line-behind_pos-requires
put_number_line-behind_pos-requires c = rw c.get-number.ensures (omega (
  arith,
  c.requires.fits,
  c.put_line-behind_contig.ensures.next,
  head_length c.args.contig.now
      c.args.pos.0 c.args.reference.now c.args.alts.now,
))

pub put_ref_line-behind_ref-requires : goal.put_ref_line-behind_ref-requires
put_ref_line-behind_ref-requires c = let pos = rw c.get-number.ensures at c.put_number_line-behind_pos.ensures in omega (
  arith,
  c.requires.fits,
  c.put_line-behind_contig.ensures.next,
  pos.next,
  head_length c.args.contig.now c.args.pos.0
      c.args.reference.now c.args.alts.now,
)

pub put_called_alts-requires : goal.put_called_alts-requires
put_called_alts-requires c = let pos = rw c.get-number.ensures at c.put_number_line-behind_pos.ensures in omega (
  arith,
  c.requires.fits,
  c.put_line-behind_contig.ensures.next,
  pos.next,
  c.put_ref_line-behind_ref.ensures.next,
  head_length
      c.args.contig.now c.args.pos.0 c.args.reference.now c.args.alts.now,
)

pub returns : goal.returns
returns c = head_laid c.args.contig.now c.args.pos.0 c.args.reference.now c.args.alts.now
    c.put_line-behind_contig.ensures (rw c.get-number.ensures at c.put_number_line-behind_pos.ensures) c.put_ref_line-behind_ref.ensures
    c.put_called_alts.ensures
