-- A refusal clears both slices.
use mathlib.Core.Bool.{true}
use mathlib.Core.Path.{◌∙◌, ◌≡◌}
use Rattle.std.specs.Prelude as std
use Rattle.std.specs.Result.{is_err}
use Rattle.answers.specs.declared.Refusal.{Refusal}
use Rattle.tables.proofs.Cleared.{scratch_same}
use Rattle.site_groups.specs.SiteGroups.{NumbersFound, NumbersStored}
use Rattle.site_groups.specs.declared.SiteGroup.{SiteGroup}
use Rattle.definitions.specs.Answers.{scratch_after}
use Rattle.site_groups.specs.SiteGroups.{SiteRead}
use Rattle.site_groups.proofs.site_at.Goals as goal

pub returns-then-is_err : goal.returns-then-is_err
unfolding SiteRead scratch_after
returns-then-is_err c = go c.read_site-read.result c.read_site-read.ensures c.if-is_err.ensures.value
  where
    go : (r : std.Result SiteGroup Refusal)
        → SiteRead c.args.s.now c.args.at c.args.samples c.args.before r
        × NumbersFound c.args.s.now c.args.ad.now c.read_site-read.new.ad c.args.pl.now c.read_site-read.new.pl r → true ≡ is_err r
        → SiteRead c.args.s.now c.args.at c.args.samples c.args.before r
        × NumbersStored c.args.s.now c.args.ad.now c.clear.new.values c.args.pl.now c.clear-then-is_err.new.values r
    go (std.Ok g) h e = absurd cc
    go (std.Err e) h _ = (h.0, (c.clear.ensures ∙ scratch_same _ _ c.read_site-read.auto.ad, c.clear-then-is_err.ensures ∙ scratch_same _ _ c.read_site-read.auto.pl))
