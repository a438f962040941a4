-- The value of the line: a dot, or a genotype.
use Prim.Native.Nat.{suc}
use mathlib.Core.Option.{none, some}
use mathlib.Core.Path.{◌∙◌, sym}
use Rattle.definitions.specs.Bytes.{text}
use Rattle.definitions.specs.Lines.{key_of}
use Rattle.definitions.specs.ListReader.{gt_of}
use Rattle.definitions.specs.Numbers.{or_missing}
use Rattle.kv_text.proofs.Lines.{missing_dot, missing_none, missing_some, read_absent, read_right, read_wrong}
use Rattle.laws.proofs.Tests.{is_there_lem, not_there}
use Rattle.list_reader.specs.RecordGroups.{GtRead}
use Rattle.list_reader.proofs.gt_line.Goals as goal

pub returns-in_err-line : goal.returns-in_err-line
unfolding GtRead key_of text
returns-in_err-line c = rw c.from_residual.ensures (read_absent _ _ _ (or_missing (gt_of (suc c.args.alts))) c.in_err-line.ensures.0)

pub returns-then-same_bytes : goal.returns-then-same_bytes
unfolding GtRead key_of text
returns-then-same_bytes c = let l = c.in_ok-line.ensures in
    record {
      gt = none;
      line = read_right _ _ _ (or_missing (gt_of (suc c.args.alts))) _ _ none l.0
          (missing_dot (gt_of (suc c.args.alts)) _ (rw c.part-value.ensures at (sym c.same_bytes.ensures ∙ c.if-same_bytes.true)));
    }

pub returns-then-is_gt : goal.returns-then-is_gt
unfolding GtRead key_of text
returns-then-is_gt c = let l = c.in_ok-line.ensures in
    let g = is_there_lem _ (rw c.part-value.ensures at (sym c.is_gt.ensures ∙ c.if-is_gt.true)) in
    record {
      gt = some g.0;
      line = read_right _ _ _ (or_missing (gt_of (suc c.args.alts))) _ _ (some g.0) l.0
          (missing_some (gt_of (suc c.args.alts)) _ g.0 (rw c.part-value.ensures at
          (sym c.same_bytes.ensures ∙ c.if-same_bytes.false)) g.1);
    }

pub returns : goal.returns
unfolding GtRead key_of text
returns c = let l = c.in_ok-line.ensures in
    read_wrong _ _ _ (or_missing (gt_of (suc c.args.alts))) _ _ l.0
    (missing_none (gt_of (suc c.args.alts)) _ (rw c.part-value.ensures at (sym c.same_bytes.ensures ∙ c.if-same_bytes.false))
    (not_there _ (rw c.part-value.ensures at (sym c.is_gt.ensures ∙ c.if-is_gt.false))))
