-- By whether the alleles are REF, or the same.
use Prim.Native.Nat.{min, ℕ}
use borrow.Author.Rules.{rules}
use lib.ListN.{get_or}
use mathlib.Core.List.{List}
use mathlib.Core.Path.{◌∙◌, ◌≡◌, ap, sym}
use Rattle.called_genotypes.proofs.Folded.{both_ref, low_ref, other_pair, same_allele_lem}
use Rattle.called_genotypes.proofs.folded_pl.Goals as goal

at_place : (pl : List ℕ) {r place k : ℕ} → r ≡ get_or pl place 0 → place ≡ k → r ≡ get_or pl k 0
at_place pl e f = e ∙ ap (λ k. get_or pl k 0) f

pub returns-then-b-eq0 : goal.returns-then-b-eq0
returns-then-b-eq0 c = let pl = c.args.pl.now in
    both_ref pl (c.args.dropped.0) (c.args.low.0) (c.args.high.0) (at_place pl (c.value_or-own.ensures) (c.place_of.ensures)) (at_place pl (c.value_or-with_dropped.ensures) (c.place_of-2.ensures))
    (at_place pl (c.value_or-twice.ensures) (c.place_of-then-b-eq0.ensures)) (sym (c.get-a.ensures) ∙ c.if-a-eq0.true) (sym (c.get-b.ensures) ∙ c.if-b-eq0.true) ((c.min-then-b-eq0.ensures) ∙ ap (min _) (c.min.ensures))

pub returns-then-a-eq0 : goal.returns-then-a-eq0
returns-then-a-eq0 c = let pl = c.args.pl.now in
    low_ref pl (c.args.dropped.0) (c.args.low.0) (c.args.high.0) (at_place pl (c.value_or-own.ensures) (c.place_of.ensures)) (at_place pl (c.value_or-with_dropped.ensures) (c.place_of-2.ensures))
    (sym (c.get-a.ensures) ∙ c.if-a-eq0.true) (λ q. (c.if-b-eq0.false) ((c.get-b.ensures) ∙ q)) (c.min-then-a-eq0.ensures)

pub returns-then-a-b : goal.returns-then-a-b
returns-then-a-b c = let pl = c.args.pl.now in
    same_allele_lem pl (c.args.dropped.0) (c.args.low.0) (c.args.high.0) (at_place pl (c.value_or-own.ensures) (c.place_of.ensures)) (at_place pl (c.value_or-with_dropped.ensures) (c.place_of-2.ensures))
    (λ q. (c.if-a-eq0.false) ((c.get-a.ensures) ∙ q)) (sym (c.get-a.ensures) ∙ (c.if-a-b.true) ∙ (c.get-b.ensures)) (c.min-then-a-b.ensures)

pub returns : goal.returns
returns c = let pl = c.args.pl.now in
    other_pair pl (c.args.dropped.0) (c.args.low.0) (c.args.high.0) (at_place pl (c.value_or-own.ensures) (c.place_of.ensures)) (at_place pl (c.value_or-with_dropped.ensures) (c.place_of-2.ensures))
    (λ q. (c.if-a-eq0.false) ((c.get-a.ensures) ∙ q)) (λ q. (c.if-a-b.false) ((c.get-a.ensures) ∙ q ∙ sym (c.get-b.ensures)))
