-- One site stored, and none left.
use Rattle.std.proofs.Common.{◌≡◌, ◌∙◌, sym}
use Rattle.found_sites.proofs.Entries.{gather_end, gather_next}
use Rattle.found_sites.proofs.gather.Goals as goal

pub loop-i-preserved : goal.loop-i-preserved
loop-i-preserved c =
    rw c.found_at.ensures
    (gather_next c.args.sites.now c.args.owners.now c.requires.1 c.loop-i.list c.loop-i.i c.loop-i-test.true ∙ c.loop-i.invariant)

pub returns : goal.returns
returns c =
    gather_end c.args.sites.now c.args.owners.now c.requires.1 c.loop-i.list c.loop-i.i c.loop-i-test.false ∙ c.loop-i.invariant
