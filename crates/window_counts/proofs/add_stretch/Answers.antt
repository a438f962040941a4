use mathlib.Core.Path.{refl}
use Rattle.window_counts.proofs.Adding.{later_added, skip_ready, later_ready, none_added, skipping, skips_fit, starts_fit}
use Rattle.window_counts.proofs.add_stretch.Goals as goal

pub windows_before-skipped-requires : goal.windows_before-skipped-requires
windows_before-skipped-requires c = skip_ready (c.requires) (c.get.ensures)

pub overflow_mul-begin : goal.overflow_mul-begin
overflow_mul-begin c = record { fits = skips_fit c.requires (skipping c.get.ensures c.windows_before-skipped.ensures c.get-2.ensures refl) }

pub overflow_add-begin : goal.overflow_add-begin
overflow_add-begin c = rw c.get-2.ensures
    (record { fits = starts_fit c.requires (skipping c.get.ensures c.windows_before-skipped.ensures c.get-2.ensures refl) })

pub add_overlaps-requires : goal.add_overlaps-requires
add_overlaps-requires c = later_ready c.requires
    (skipping c.get.ensures c.windows_before-skipped.ensures c.get-2.ensures c.new_1based-first.ensures)
    c.if-at-counts.true _ refl refl refl

pub returns-then-at-counts : goal.returns-then-at-counts
returns-then-at-counts c = later_added c.requires
    (skipping c.get.ensures c.windows_before-skipped.ensures c.get-2.ensures c.new_1based-first.ensures)
    c.if-at-counts.true _ refl refl refl c.add_overlaps.ensures

pub returns-else-at-counts : goal.returns-else-at-counts
returns-else-at-counts c = none_added c.requires (skipping c.get.ensures c.windows_before-skipped.ensures c.get-2.ensures refl) c.if-at-counts.false
