-- The front of the text, as long as the prefix, is compared, in either case.
use mathlib.Core.Path.{◌∙◌, sym}
use native.Mathlib.Nat.{sub-zero}
use Rattle.laws.proofs.Capitals.{prefix_capitals}
use Rattle.merged_ref.proofs.is_prefix.Goals as goal

pub returns : goal.returns
returns c = let a = c.args in
    c.same_letters.ensures ∙ rw (c.part-front.ensures, sub-zero) (sym (prefix_capitals a.p.now a.s.now))
