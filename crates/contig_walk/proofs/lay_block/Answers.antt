-- The samples' lines fit the list that they are laid in; the block's letter is the capital of REF's.
use borrow.Author.Rules.{rules}
use lib.ListN.{length}
use mathlib.Core.Path.{ap}
use native.Mathlib.Omega.{arith}
use Rattle.coalescing.proofs.StepLaws.{block_step}
use Rattle.contig_walk.proofs.LaidRecords.{fresh_lines, lines_few, new_block, one_letter, printable}
use Rattle.contig_walk.specs.Laying.{laid_record}
use Rattle.contig_walk.proofs.lay_block.Goals as goal

pub merge_genotypes-len-requires : goal.merge_genotypes-len-requires
merge_genotypes-len-requires c = printable c.requires.0 0 (omega arith)

pub bounds-allele-0 : goal.bounds-allele-0
bounds-allele-0 c = omega (arith, one_letter c.requires.0 c.requires.1)

pub slice_bounds-coalesce_homref_blocks-end : goal.slice_bounds-coalesce_homref_blocks-end
slice_bounds-coalesce_homref_blocks-end c = (fresh_lines c.requires.0 c.requires.1 _ _ c.merge_genotypes-len.ensures).within

pub slice_bounds-coalesce_homref_blocks-end-2 : goal.slice_bounds-coalesce_homref_blocks-end-2
slice_bounds-coalesce_homref_blocks-end-2 c = (fresh_lines c.requires.0 c.requires.1 _ _ c.merge_genotypes-len.ensures).exact

pub coalesce_homref_blocks-requires : goal.coalesce_homref_blocks-requires
coalesce_homref_blocks-requires c = let f = fresh_lines c.requires.0 c.requires.1 _ _ c.merge_genotypes-len.ensures in
    record {
      fits = c.requires.0.fits;
      room = omega (arith, ap length f.lines, c.requires.0.room, lines_few c.requires.0 c.requires.1);
    }

pub returns : goal.returns
returns c = λ ready block way.
    let f = fresh_lines ready block _ _ c.merge_genotypes-len.ensures in
    block_step _ _ _ way.begun.d₀ way.begun.bytes way.begun.records _ _ _
    (laid_record ready) (new_block c.args.loc ready block _ c.capital-letter.ensures _ f.lines) _ way.waiting way.holds
    (omega (arith, ap length f.lines, ready.room, lines_few ready block)) _ _ _ way.begun.progress _ _ _
    c.coalesce_homref_blocks.ensures.step c.coalesce_homref_blocks.ensures.laid c.coalesce_homref_blocks.ensures.lines
