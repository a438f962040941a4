-- In the row, or in the text.
use borrow.Author.Rules.{rules}
use Rattle.tables.proofs.NumberLists.{first_in_row, first_in_text, in_row, in_text, stored_length}
use mathlib.Core.Path.{◌∙◌, sym}
use Rattle.tables.proofs.numbers_at.Goals as goal

pub returns-then-is_stored : goal.returns-then-is_stored
returns-then-is_stored c =
    let a = c.args in
    let e = rw c.column-count.ensures at (sym c.is_stored.ensures ∙ c.if-is_stored.true) in
    record {
      count = rw (in_row a.k a.most a.s.now a.rows.now a.site e) (c.column-count.ensures ∙ sym (stored_length a.k a.most a.s.now a.rows.now a.site));
      values = rw (first_in_row a.k a.most a.s.now a.rows.now a.site e) c.stored_numbers.ensures;
    }

pub returns : goal.returns
returns c =
    let a = c.args in
    let e = rw c.column-count.ensures at (sym c.is_stored.ensures ∙ c.if-is_stored.false) in
    record {
      count = rw (in_text a.k a.most a.s.now a.rows.now a.site e, ← c.part_at-list.ensures) c.numbers_in.ensures.count;
      values = rw (first_in_text a.k a.most a.s.now a.rows.now a.site e, ← c.part_at-list.ensures) c.numbers_in.ensures.values;
    }
