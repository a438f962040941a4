-- Test by test, as `checked` has them.
use Prim.Native.Nat.{suc}
use borrow.Author.Tests.{le-leb, lt-leb}
use mathlib.Core.Path.{◌∙◌, sym}
use native.Mathlib.Omega.{arith}
use Rattle.alleles.proofs.Checked.{checked, has_non_ref_lem}
use Rattle.alleles.specs.Alleles.{AllelesFound}
use Rattle.definitions.specs.Bytes.{comma, text}
use Rattle.definitions.specs.Lists.{only_if}
use Rattle.alleles.proofs.check_alleles.Goals as goal

pub returns-then-count-n : goal.returns-then-count-n
unfolding AllelesFound only_if comma
returns-then-count-n c = checked _ _ _ _ ∙ rw (← c.count_fields-n.ensures, lt-leb (suc (c.count_fields-n.result)) (c.args.count) (omega arith))

pub returns-then-not-is_letters : goal.returns-then-not-is_letters
unfolding AllelesFound only_if comma
returns-then-not-is_letters c = checked _ _ _ _ ∙ rw (← c.count_fields-n.ensures, le-leb (suc (c.count_fields-n.result)) (c.args.count) (omega arith), sym (c.is_letters.ensures) ∙ c.if-not-is_letters.true)

pub returns-then-not-are_alleles : goal.returns-then-not-are_alleles
unfolding AllelesFound only_if comma
returns-then-not-are_alleles c = checked _ _ _ _ ∙ rw (← c.count_fields-n.ensures, le-leb (suc (c.count_fields-n.result)) (c.args.count) (omega arith), sym (c.is_letters.ensures) ∙ c.if-not-is_letters.false, sym (c.are_alleles.ensures) ∙ c.if-not-are_alleles.true)

pub returns-then-among_alleles : goal.returns-then-among_alleles
unfolding AllelesFound only_if comma
returns-then-among_alleles c = checked _ _ _ _ ∙ rw (← c.count_fields-n.ensures, le-leb (suc (c.count_fields-n.result)) (c.args.count) (omega arith), sym (c.is_letters.ensures) ∙ c.if-not-is_letters.false, sym (c.are_alleles.ensures) ∙ c.if-not-are_alleles.false, sym (c.among_alleles.ensures) ∙ c.if-among_alleles.true)

pub returns-then-not-distinct_fields : goal.returns-then-not-distinct_fields
unfolding AllelesFound only_if comma
returns-then-not-distinct_fields c = checked _ _ _ _ ∙ rw (← c.count_fields-n.ensures, le-leb (suc (c.count_fields-n.result)) (c.args.count) (omega arith), sym (c.is_letters.ensures) ∙ c.if-not-is_letters.false, sym (c.are_alleles.ensures) ∙ c.if-not-are_alleles.false, sym (c.among_alleles.ensures) ∙ c.if-among_alleles.false, sym (c.distinct_fields.ensures) ∙ c.if-not-distinct_fields.true)

pub returns : goal.returns
unfolding AllelesFound only_if comma text
returns c = record {
  right = checked _ _ _ _ ∙ rw (← c.count_fields-n.ensures, le-leb (suc (c.count_fields-n.result)) (c.args.count) (omega arith), sym (c.is_letters.ensures) ∙ c.if-not-is_letters.false, sym (c.are_alleles.ensures) ∙ c.if-not-are_alleles.false, sym (c.among_alleles.ensures) ∙ c.if-among_alleles.false, sym (c.distinct_fields.ensures) ∙ c.if-not-distinct_fields.false);
  number = omega (arith, c.count_fields-n.ensures);
  few = omega arith;
  has = c.among_fields.ensures ∙ has_non_ref_lem _ _;
}
