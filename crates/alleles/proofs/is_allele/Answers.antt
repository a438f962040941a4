-- A field that spells an allele is of one of the three kinds.
use Prim.Native.Nat.{ℕ}
use mathlib.Core.List.{List}
use mathlib.Core.Path.{◌∙◌, ◌≡◌, ap, refl}
use Rattle.std.specs.Option.{is_some}
use Rattle.std.specs.Prelude.{None, Option, Some}
use Rattle.definitions.specs.Lists.{is_there}
use Rattle.kv_text.specs.Fields.{allele_read}
use Rattle.kv_text.specs.declared.AlleleKind.{AlleleKind}
use Rattle.kv_text.specs.declared.AlleleKind.TheVariants.{Letters, NonRef, SpanDel}
use Rattle.alleles.proofs.is_allele.Goals as goal

told : (kind : Option AlleleKind) (s : List ℕ) → is_some kind ≡ is_there (allele_read kind s)
unfolding is_there
told None s = refl
told (Some Letters) s = refl
told (Some SpanDel) s = refl
told (Some NonRef) s = refl

pub returns : goal.returns
returns c = c.is_some.ensures ∙ told c.read_allele.result _ ∙ ap is_there c.read_allele.ensures
