-- REF, or a field of the ALTs.
use borrow.Author.Rules.{rules}
use mathlib.Core.Path.{◌∙◌, sym}
use native.Mathlib.Omega.{arith}
use Rattle.definitions.specs.Bytes.{comma, fields_of}
use Rattle.kv_text.specs.Fields.{FieldFound}
use Rattle.shown_alleles.proofs.Pairs.{field_number, past_fields}
use Rattle.shown_alleles.proofs.allele_at.Goals as goal

pub returns-in-Some : goal.returns-in-Some
unfolding FieldFound comma
returns-in-Some c = let h = c.in-Some.ensures in
    c.part.ensures ∙ sym h.1 ∙ sym
    (field_number _ (fields_of comma c.args.alts.now) c.args.number (omega (arith, c.if-number-eq0.false)))

pub returns-in-None : goal.returns-in-None
unfolding FieldFound comma
returns-in-None c = let h = c.in-None.ensures in
    sym
    (field_number _ (fields_of comma c.args.alts.now) c.args.number (omega (arith, c.if-number-eq0.false)) ∙ past_fields
    (fields_of comma c.args.alts.now) _ h)
