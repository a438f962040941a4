-- A refused record leaves a cleared table.
use mathlib.Core.Bool.{false, true}
use mathlib.Core.Path.{◌∙◌, ◌≡◌}
use Rattle.std.specs.Prelude as std
use Rattle.std.specs.Result.{is_err}
use Rattle.answers.specs.declared.Refusal.{Refusal}
use Rattle.definitions.specs.Answers.{scratch_after}
use Rattle.called_reader.specs.CalledGroups.{RecordFound, RecordRead}
use Rattle.called_reader.specs.declared.CalledPlace.{CalledPlace}
use Rattle.tables.proofs.Cleared.{scratch_same}
use Rattle.called_reader.proofs.record_at.Goals as goal

pub returns-then-is_err : goal.returns-then-is_err
unfolding RecordFound RecordRead scratch_after
returns-then-is_err c = go c.read_record-read.result c.read_record-read.ensures c.if-is_err.ensures.value
  where
    go : (r : std.Result CalledPlace Refusal)
        → RecordFound c.args.s.now c.args.at c.args.samples c.args.previous c.args.pls.now c.read_record-read.new.pls r → true ≡ is_err r
        → RecordRead c.args.s.now c.args.at c.args.samples c.args.previous c.args.pls.now c.clear.new.values r
    go (std.Ok p) h e = absurd cc
    go (std.Err r) h _ = record { value = h; cleared = c.clear.ensures ∙ scratch_same _ _ c.read_record-read.auto.pls }

pub returns-else-is_err : goal.returns-else-is_err
unfolding RecordFound RecordRead
returns-else-is_err c = go c.read_record-read.result c.read_record-read.ensures c.if-is_err.ensures.value
  where
    go : (r : std.Result CalledPlace Refusal)
        → RecordFound c.args.s.now c.args.at c.args.samples c.args.previous c.args.pls.now c.read_record-read.new.pls r → false ≡ is_err r
        → RecordRead c.args.s.now c.args.at c.args.samples c.args.previous c.args.pls.now c.read_record-read.new.pls r
    go (std.Ok p) h _ = h
    go (std.Err r) h e = absurd cc
