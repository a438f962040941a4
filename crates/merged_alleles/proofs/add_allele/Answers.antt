-- The candidate is laid behind the list, and looked for before it.
use native.Mathlib.Omega.{arith}
use Rattle.merged_alleles.proofs.Listing.{comma_short}
use Rattle.merged_alleles.proofs.Turns.{adds_fresh, adds_no_more, adds_old, from_before, list_before, next_length, next_within, short_capitals}
use Rattle.merged_alleles.specs.Alts.{Added}
use Rattle.merged_alleles.proofs.add_allele.Goals as goal

pub put_comma-from-requires : goal.put_comma-from-requires
put_comma-from-requires c = omega (arith, c.requires.0.small, c.requires.0.few)

pub put_letters-middle-requires : goal.put_letters-middle-requires
put_letters-middle-requires c = omega (arith, c.put_comma-from.ensures.next, comma_short c.args.so_far.count, c.requires.0.small, c.requires.0.few, (short_capitals c.requires.1).short)

pub put_letters-next-requires : goal.put_letters-next-requires
put_letters-next-requires c = omega (arith, c.put_comma-from.ensures.next, c.put_letters-middle.ensures.next, comma_short c.args.so_far.count, c.requires.0.small, c.requires.0.few, (short_capitals c.requires.1).short, (short_capitals c.requires.2).short)

pub slice_bounds-is_listed-end : goal.slice_bounds-is_listed-end
slice_bounds-is_listed-end c = next_within (c.requires.0) _ _ ((short_capitals c.requires.1)) ((short_capitals c.requires.2)) (c.put_comma-from.ensures) (c.put_letters-middle.ensures) (c.put_letters-next.ensures)

pub slice_bounds-is_listed-end-2 : goal.slice_bounds-is_listed-end-2
slice_bounds-is_listed-end-2 c = next_length (c.requires.0) _ _ ((short_capitals c.requires.1)) ((short_capitals c.requires.2)) (c.put_comma-from.ensures) (c.put_letters-middle.ensures) (c.put_letters-next.ensures)

pub is_listed-requires : goal.is_listed-requires
is_listed-requires c = let long = next_length (c.requires.0) _ _ ((short_capitals c.requires.1)) ((short_capitals c.requires.2)) (c.put_comma-from.ensures) (c.put_letters-middle.ensures) (c.put_letters-next.ensures) in
    (rw (← long) (list_before (c.requires.0) _ _ ((short_capitals c.requires.1)) ((short_capitals c.requires.2)) (c.put_comma-from.ensures) (c.put_letters-middle.ensures) (c.put_letters-next.ensures)), rw (← long) (from_before (c.requires.0) _ _ ((short_capitals c.requires.1)) ((short_capitals c.requires.2)) (c.put_comma-from.ensures) (c.put_letters-middle.ensures) (c.put_letters-next.ensures)))

pub returns-then-is_listed : goal.returns-then-is_listed
unfolding Added
returns-then-is_listed c = adds_old (c.requires.0) _ _ ((short_capitals c.requires.1)) ((short_capitals c.requires.2)) (c.put_comma-from.ensures) (c.put_letters-middle.ensures) (c.put_letters-next.ensures) (c.is_listed.ensures) c.if-is_listed.true

pub returns-then-so_far-ge14 : goal.returns-then-so_far-ge14
unfolding Added
returns-then-so_far-ge14 c = adds_no_more (c.requires.0) _ _ ((short_capitals c.requires.1)) ((short_capitals c.requires.2)) (c.put_comma-from.ensures) (c.put_letters-middle.ensures) (c.put_letters-next.ensures) (c.is_listed.ensures) c.if-is_listed.false c.if-so_far-ge14.true

pub returns : goal.returns
unfolding Added
returns c = adds_fresh (c.requires.0) _ _ ((short_capitals c.requires.1)) ((short_capitals c.requires.2)) (c.put_comma-from.ensures) (c.put_letters-middle.ensures) (c.put_letters-next.ensures) (c.is_listed.ensures) c.if-is_listed.false c.if-so_far-ge14.false
