-- Site by site, up to the first that shows it.
use Prim.Native.Nat.{◌-◌}
use borrow.Author.Rules.{rules}
use mathlib.Core.Path.{refl}
use Rattle.laws.proofs.Every.{every_at}
use Rattle.merged_alleles.proofs.SpanDel.{ShownFrom, none_shown, shown_here, shown_later}
use Rattle.merged_alleles.proofs.any_span_del.Goals as goal

pub loop-site-init : goal.loop-site-init
loop-site-init c = λ ref. refl

pub shows_span_del-requires : goal.shows_span_del-requires
shows_span_del-requires c = every_at _ 0 c.loop-site-test.true c.requires

pub returns-then-shows_span_del : goal.returns-then-shows_span_del
returns-then-shows_span_del c = shown_here _ _ _ _ _ c.loop-site.invariant c.loop-site-test.true (c.shows_span_del.ensures) c.if-shows_span_del.true

pub loop-site-preserved : goal.loop-site-preserved
loop-site-preserved c = shown_later _ _ _ _ _ c.loop-site.invariant c.loop-site-test.true (c.shows_span_del.ensures) c.if-shows_span_del.false

pub returns : goal.returns
returns c = none_shown _ _ _ _ _ c.loop-site.invariant c.loop-site-test.false
