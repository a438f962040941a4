-- By whether it is dropped, and whether others are laid.
use borrow.Author.Rules.{rules}
use borrow.Author.Tests.{not-false, not-true}
use mathlib.Core.List.{[], ◌∷◌, map}
use Rattle.called_lines.proofs.Alts.{alt_dropped, alt_first, alt_next}
use Rattle.definitions.specs.Alleles.{capital}
use Rattle.kv_write.proofs.Laying.{fits_first, fits_rest, laid_append, laid_none}
use Rattle.called_lines.proofs.put_alt.Goals as goal

pub returns-then-dropped : goal.returns-then-dropped
returns-then-dropped c = rw (alt_dropped _ _ _ (c.if-dropped.true)) laid_none

pub put_letters-requires : goal.put_letters-requires
put_letters-requires c = rw (alt_first _ _ _ (c.if-dropped.false) (c.if-not-others.true)) at (c.requires)

pub returns-then-not-others : goal.returns-then-not-others
returns-then-not-others c = rw (alt_first _ _ _ (c.if-dropped.false) (c.if-not-others.true)) (c.put_letters.ensures)

pub put_byte-behind_comma-requires : goal.put_byte-behind_comma-requires
put_byte-behind_comma-requires c = fits_first (c.args.at) (44 ∷ []) (map capital c.args.alt.now)
    (rw (alt_next _ _ _ (c.if-dropped.false) (c.if-not-others.false)) at (c.requires))

pub put_letters-requires-2 : goal.put_letters-requires-2
put_letters-requires-2 c = fits_rest (map capital c.args.alt.now) (c.put_byte-behind_comma.ensures)
    (rw (alt_next _ _ _ (c.if-dropped.false) (c.if-not-others.false)) at (c.requires))

pub returns : goal.returns
returns c = rw (alt_next _ _ _ (c.if-dropped.false) (c.if-not-others.false))
    (laid_append (c.put_byte-behind_comma.ensures) (c.put_letters-2.ensures))
