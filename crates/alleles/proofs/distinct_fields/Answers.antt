-- Each field with those behind it, up to the first that is among them.
use Prim.Native.Nat.{◌-◌, ℕ}
use borrow.Author.Rules.{rules}
use lib.ListN.{drop, length, length-drop, take}
use lib.Seq.{take_all}
use mathlib.Core.List.{List}
use mathlib.Core.Path.{◌≡◌, sym}
use native.Mathlib.Omega.{arith}
use Rattle.alleles.proofs.FieldLoop.{field_decides_with, field_ends, field_passed, fields_start}
use Rattle.definitions.specs.Bytes.{comma}
use Rattle.definitions.specs.Lists.{all_distinct, any_of}
use Rattle.laws.proofs.Capitals.{same_letters}
use Rattle.kv_text.proofs.Fields.{field_forward}
use Rattle.alleles.proofs.distinct_fields.Goals as goal

rest : (s : List ℕ) (from : ℕ) → take (length s - from) (drop from s) ≡ drop from s
rest s from = take_all (length s - from) (drop from s) (rw (length-drop from s) (omega arith))

pub loop-end-init : goal.loop-end-init
loop-end-init c = record { left = fields_start (all_distinct same_letters) _; ends = c.field_end-end.ensures }

pub slice_bounds-among_alleles-count : goal.slice_bounds-among_alleles-count
slice_bounds-among_alleles-count c = let h = field_forward _ _ _ _ (c.loop-end.invariant.ends) in search rules

pub slice_bounds-among_alleles-start : goal.slice_bounds-among_alleles-start
slice_bounds-among_alleles-start c = let h = field_forward _ _ _ _ (c.loop-end.invariant.ends) in search rules

pub returns-then-among_alleles : goal.returns-then-among_alleles
unfolding all_distinct comma
returns-then-among_alleles c = field_decides_with (all_distinct same_letters) _ _ _ (c.loop-end.invariant.left) (c.loop-end.invariant.ends) _ c.loop-end-test.true (rw (rw (rest (c.args.list.now) _, c.if-among_alleles.true) at (sym (c.among_alleles.ensures))))

pub loop-end-smaller : goal.loop-end-smaller
loop-end-smaller c = let h = field_forward _ _ _ _ (c.loop-end.invariant.ends) in omega (arith, h)

pub loop-end-preserved : goal.loop-end-preserved
unfolding all_distinct comma
loop-end-preserved c = record {
  left = field_passed (all_distinct same_letters) _ _ _ (c.loop-end.invariant.left) (c.loop-end.invariant.ends) c.loop-end-test.true (rw (rw (rest (c.args.list.now) _, c.if-among_alleles.false) at (sym (c.among_alleles.ensures))));
  ends = c.field_end-end-in-loop-end.ensures;
}

pub returns : goal.returns
unfolding all_distinct any_of
returns c = field_ends (all_distinct same_letters) _ _ _ (c.loop-end.invariant.left) (c.loop-end.invariant.ends) c.loop-end-test.false
