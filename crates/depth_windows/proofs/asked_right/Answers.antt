use mathlib.Core.Path.{◌∙◌, sym}
use borrow.Author.Tests.{not-false, not-true}
use borrow.Author.Rules.{rules}
use Rattle.depth_windows.proofs.asked_right.Reads as reads
use Rattle.depth_windows.proofs.asked_right.Lts as lts
use Rattle.bio_ids.proofs.SampleIndex.get.Reads as get-reads
use Rattle.depth_windows.proofs.window_fits.Reads as window-fits-reads
use Rattle.depth_windows.proofs.asked_right.Goals as goal

pub returns-then-not-window_fits : goal.returns-then-not-window_fits
returns-then-not-window_fits c = rw (sym (c.window_fits.ensures) ∙ c.if-not-window_fits.true)

pub returns-then-not-window_fits-2 : goal.returns-then-not-window_fits-2
returns-then-not-window_fits-2 c = rw (sym c.window_fits.ensures ∙ c.if-not-window_fits.false, sym c.window_fits-2.ensures ∙ c.if-not-window_fits-2.true)

pub returns : goal.returns
returns c = rw (
  sym c.window_fits.ensures ∙ c.if-not-window_fits.false,
  sym c.window_fits-2.ensures ∙ not-false _
      c.if-not-window_fits-2.false-raw,
  c.get.ensures,
)
