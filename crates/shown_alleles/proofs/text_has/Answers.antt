-- The numbers of the text, if it has some.
use Prim.Native.Nat.{ℕ}
use borrow.Author.Rules.{rules}
use mathlib.Core.List.{List}
use mathlib.Core.Option.{Option, some}
use mathlib.Core.Path.{◌∙◌, ap, sym}
use native.Mathlib.Omega.{arith}
use Rattle.kv_text.specs.Fields.{numbers_read}
use Rattle.definitions.specs.SelectionSheet.{in_least_pair}
use Rattle.shown_alleles.proofs.Pairs.{few_numbers, front_is, front_long, least_missing}
use Rattle.shown_alleles.proofs.text_has.Goals as goal

pub slice_bounds-numbers-end : goal.slice_bounds-numbers-end
unfolding numbers_read
slice_bounds-numbers-end c = let r = c.in-Some.ensures in
    let few = few_numbers _ _ c.requires r.0.0 in omega (arith, few, r.0.1)

pub slice_bounds-in_least_pair-end : goal.slice_bounds-in_least_pair-end
unfolding numbers_read
slice_bounds-in_least_pair-end c = let r = c.in-Some.ensures in
    let few = few_numbers _ _ c.requires r.0.0 in
    front_long _ _ _ _ _ r.0.0 r.1 r.0.1 few

pub returns-in-None : goal.returns-in-None
unfolding numbers_read
returns-in-None c = least_missing _ _ _ c.in-None.ensures.0

pub returns-in-Some : goal.returns-in-Some
unfolding numbers_read
returns-in-Some c = let r = c.in-Some.ensures in
    let few = few_numbers _ _ c.requires r.0.0 in
    c.in_least_pair.ensures ∙ ap (in_least_pair 16 _) (ap {B = Option (List ℕ)} some (front_is _ _ _ _ r.1 r.0.1 few) ∙ sym r.0.0)
