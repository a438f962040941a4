-- No ALT is listed, or the fields of the text are looked at.
use lib.ListN.{length-take}
use mathlib.Core.Path.{◌∙◌, sym}
use native.Mathlib.Nat.{min-eq_left}
use Rattle.definitions.specs.Lists.{any_of}
use Rattle.merged_alleles.proofs.Listing.{none_listed, some_listed}
use Rattle.merged_alleles.proofs.Turns.{part_rest}
use Rattle.merged_alleles.proofs.is_listed.Goals as goal

pub returns-then-n-eq0 : goal.returns-then-n-eq0
unfolding any_of
returns-then-n-eq0 c = rw (none_listed _ _ _ c.if-n-eq0.true)

pub slice_bounds-among_fields-end-2 : goal.slice_bounds-among_fields-end-2
slice_bounds-among_fields-end-2 c = sym (length-take _ _ ∙ min-eq_left (c.requires.0))

pub returns : goal.returns
returns c = rw (some_listed _ _ _ c.if-n-eq0.false, ← part_rest c.args.text.now c.args.from) (c.among_fields.ensures)
