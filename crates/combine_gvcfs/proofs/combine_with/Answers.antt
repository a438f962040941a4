-- The texts are read into the tables, if they have room; then the list is that of the input.
use borrow.Author.Rules.{rules}
use Rattle.std.proofs.lemmas.Result.{err_from_is_err_and}
use Rattle.combine_gvcfs.proofs.Loading.{not_loaded, texts_answered}
use Rattle.combine_gvcfs.specs.Combined.{ReadTo, TriedWith}
use Rattle.combine_gvcfs.proofs.combine_with.Goals as goal

pub read_texts-requires : goal.read_texts-requires
read_texts-requires c = (c.requires.0, c.requires.1.tables)

pub returns-in_err-size : goal.returns-in_err-size
returns-in_err-size c = let p = err_from_is_err_and c.from_residual.result c.from_residual.ensures.1 in
    rw (p.1, p.2) (not_loaded _ _ _ _ _ _ _ _ _ _ _ c.in_err-size.ensures)

pub combine_loaded_gvcfs-requires : goal.combine_loaded_gvcfs-requires
unfolding ReadTo
combine_loaded_gvcfs-requires c =
    (c.in_ok-size.ensures.call, c.requires.1.for_sites _ c.in_ok-size.ensures.few_sites c.in_ok-size.ensures.for_rows)

pub returns-in_err-written : goal.returns-in_err-written
unfolding ReadTo TriedWith
returns-in_err-written c = let p = err_from_is_err_and c.from_residual-in_err-written.result c.from_residual-in_err-written.ensures.1 in
    rw (p.1, p.2) (texts_answered c.in_ok-size.ensures _ c.in_err-written.ensures)

pub returns : goal.returns
unfolding ReadTo TriedWith
returns c = texts_answered c.in_ok-size.ensures _ c.in_ok-written.ensures
