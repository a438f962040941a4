-- The texts are read into the tables, which have room for all; then the figure is that of the input.
use borrow.Author.Rules.{rules}
use mathlib.Core.Logic.{inl}
use mathlib.Core.Path.{refl}
use native.Mathlib.Omega.{arith}
use Rattle.combine_gvcfs.proofs.Loading.{full_table}
use Rattle.combine_gvcfs.specs.Combined.{ReadTo}
use Rattle.search_looks.proofs.Figure.{loaded_answered, tables_ready, texts_refused}
use Rattle.search_looks.proofs.fitting_looks.Goals as goal

pub read_texts-read-requires : goal.read_texts-read-requires
read_texts-read-requires c = (c.requires, record { for_names = omega arith; whole = inl (omega arith) })

pub loaded_looks-requires : goal.loaded_looks-requires
unfolding ReadTo
loaded_looks-requires c = let few = c.in-Ok.ensures.few_sites in
    (tables_ready c.in-Ok.ensures, record { for_order = omega arith; for_firsts = omega arith; for_chosen = omega arith })

pub returns-in-NoRoom : goal.returns-in-NoRoom
unfolding ReadTo
returns-in-NoRoom c = full_table _ refl (rw c.in-NoRoom.is at (rw c.in-Err.is at c.read_texts-read.ensures))

pub returns-in-Refused : goal.returns-in-Refused
unfolding ReadTo
returns-in-Refused c = texts_refused _ _ _ (rw c.in-Refused.is at (rw c.in-Err.is at c.read_texts-read.ensures))

pub returns-in-Ok : goal.returns-in-Ok
unfolding ReadTo
returns-in-Ok c = loaded_answered c.in-Ok.ensures _ _ c.loaded_looks.result c.loaded_looks.ensures
