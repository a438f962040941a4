-- `<NON_REF>`, or `*` and `<NON_REF>`.
use lib.ListN.{length-append}
use mathlib.Core.List.{[], ◌∷◌}
use native.Mathlib.Omega.{arith}
use Rattle.definitions.specs.Alleles.{spelled}
use Rattle.definitions.specs.Bytes.{text}
use Rattle.merged_alleles.proofs.Ends.{ended, ended_shown, one_too_many}
use Rattle.merged_alleles.proofs.Listing.{comma_short}
use Rattle.merged_alleles.specs.Alts.{AltsLaid, comma_behind}
use Rattle.merged_alleles.proofs.put_ends.Goals as goal

pub put_alt-last-requires : goal.put_alt-last-requires
put_alt-last-requires c = omega (arith, c.requires.small, c.requires.few)

pub returns-then-not-shown : goal.returns-then-not-shown
unfolding AltsLaid spelled text
returns-then-not-shown c = rw (c.if-not-shown.true) (ended (c.requires) (c.put_alt-last.ensures))

pub returns-then-letters-ge14 : goal.returns-then-letters-ge14
unfolding AltsLaid
returns-then-letters-ge14 c = rw (c.if-not-shown.false) (one_too_many (c.requires) c.if-letters-ge14.true)

pub put_alt-next-requires : goal.put_alt-next-requires
put_alt-next-requires c = omega (arith, c.requires.small, c.requires.few)

pub put_alt-last-requires-2 : goal.put_alt-last-requires-2
put_alt-last-requires-2 c = omega (arith, c.put_alt-next.ensures.next, length-append (comma_behind c.args.letters.count) (42 ∷ []), comma_short c.args.letters.count, c.requires.small, c.requires.few)

pub returns : goal.returns
unfolding AltsLaid spelled text
returns c = rw (c.if-not-shown.false) (ended_shown (c.requires) c.if-letters-ge14.false (c.put_alt-next.ensures) (c.put_alt-last-2.ensures))
