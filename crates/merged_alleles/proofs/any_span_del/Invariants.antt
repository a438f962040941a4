-- Site by site, up to the first that shows it.
use Prim.Native.Nat.{◌-◌}
use borrow.Author.Rules.{rules}
use mathlib.Core.Path.{refl}
use Rattle.laws.proofs.Every.{every_at}
use Rattle.merged_alleles.proofs.SpanDel.{ShownFrom, none_shown, shown_here, shown_later}
use Rattle.merged_alleles.proofs.any_span_del.Given as goal

abbrev pub invariant-loop-site : goal.invariant-loop-site
invariant-loop-site l = ShownFrom l.s l.rows l.position.0 l.found l.site-index
