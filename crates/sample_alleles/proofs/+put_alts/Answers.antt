-- The site's ALTs from the next on are gone through first, and then this one's number is stored over theirs.
use Rattle.std.proofs.Common.{rules, arith, ◌≡◌, ◌∙◌, sym, length, ℕ}
use Rattle.kv_text.proofs.Fields.{field_within}
use Rattle.sample_alleles.proofs.Indexes.{follows, put_last, put_next}
use Rattle.sample_alleles.proofs.+put_alts.Goals as goal
use Rattle.sample_alleles.proofs.+put_alts.Goals.{then-has_next, else-has_next}

pub slice_bounds-alt-end : goal.slice_bounds-alt-end
slice_bounds-alt-end t c = let h = field_within _ _ _ _ c.field_end-end.ensures c.requires.0 in search rules

pub put_alts-requires : goal.put_alts-requires
put_alts-requires t c =
    let (l, m) = follows c.field_end-end.result (length c.args.alternates.now) c.args.index.0 c.has_next.ensures c.if-has_next.true in
    (omega (arith, c.decreases, c.field_end-end.ensures), (omega arith, omega (arith, c.next_allele-next.ensures), c.requires.2))

pub put_alt-requires : goal.put_alt-requires
put_alt-requires t c = (c.is_non_ref-nonref.ensures, c.requires.2)

pub returns : goal.returns
returns t c =
    elim c.if-has_next.branch [
      | then-has_next w ↦
          rw (w.map-is ∙ rw w.next_allele-next.ensures at w.put_alts.ensures) at c.put_alt.ensures
          ∙ put_next _ _ _ _ _ c.args.alternates.now _ _ _ _ c.requires.0 c.requires.1 c.field_end-end.ensures c.is_non_ref-nonref.ensures
          c.first_non_ref-absent.ensures _ _ (sym c.has_next.ensures ∙ w.if-has_next.true)
      | else-has_next w ↦
          rw (w.map-is ∙ w.put_absent.ensures) at c.put_alt.ensures
          ∙ put_last _ _ _ _ _ c.args.alternates.now _ _ _ _ c.requires.0 c.requires.1 c.field_end-end.ensures c.is_non_ref-nonref.ensures
          c.first_non_ref-absent.ensures _ _ (sym c.has_next.ensures ∙ w.if-has_next.false)
    ]
