-- `all` tells whether the two bytes of every pair have the same capital.
use Prim.Native.Nat.{ℕ}
use borrow.Author.Rules.{rules}
use borrow.Author.Tests.{eqb-false, eqb-true, ne_eqb, tests}
use lib.Dec.{eqb}
use lib.ListN.{length}
use mathlib.Core.Bool.{Bool, ◌&&◌, false, true}
use mathlib.Core.List.{List, [], ◌∷◌}
use mathlib.Core.Path.{◌∙◌, ◌≡◌, refl, sym}
use native.Mathlib.Omega.{arith}
use Rattle.std.proofs.lemmas.Iterator.{YieldsList-from_slice, YieldsList-from_zip, cases_from_all}
use Rattle.std.specs.List.{zip}
use Rattle.answers.proofs.Chains.{Fails, Passes, all_answer}
use Rattle.definitions.specs.Alleles.{capital}
use Rattle.definitions.specs.Bytes.{compare_bytes, same_bytes}
use Rattle.definitions.specs.Lists.{all_of}
use Rattle.laws.proofs.Capitals.{letters_next, letters_other_byte, letters_other_length, same_letters}
use Rattle.kv_text.proofs.same_letters.Goals as goal

abbrev alike : (ℕ × ℕ) → Bool
alike p = eqb (capital p.0) (capital p.1)

pairs : (a b : List ℕ) → length a ≡ length b → all_of alike (zip a b) ≡ same_letters a b
unfolding all_of same_bytes compare_bytes
pairs [] [] e = refl
pairs [] (y ∷ b) e = absurd (omega arith)
pairs (x ∷ a) [] e = absurd (omega arith)
pairs (x ∷ a) (y ∷ b) e = go (eqb (capital x) (capital y)) refl (pairs a b (omega arith))
  where
    go : (t : Bool) → eqb (capital x) (capital y) ≡ t → all_of alike (zip a b) ≡ same_letters a b
        → (t && all_of alike (zip a b)) ≡ same_letters (x ∷ a) (y ∷ b)
    go true q r = r ∙ sym (letters_next (x ∷ a) (y ∷ b) 0 (omega arith) (omega arith) (eqb-true _ _ q))
    go false q r = sym (letters_other_byte (x ∷ a) (y ∷ b) 0 (eqb-false _ _ q))

pub returns-then-a-b : goal.returns-then-a-b
returns-then-a-b c =
    all_answer alike (zip c.args.a.now c.args.b.now) c.all.result
    (cases_from_all c.all.new.self _ _ (Passes alike) (Fails alike) c.all.ensures.ran
    (YieldsList-from_zip (YieldsList-from_slice c.args.a.now cc) (YieldsList-from_slice c.args.b.now cc))
    (λ x q k. search (rules, tests)) (λ x q k. search (rules, tests)))
    ∙ pairs _ _ c.if-a-b.true

pub returns-else-a-b : goal.returns-else-a-b
returns-else-a-b c = ne_eqb _ _ c.if-a-b.false ∙ sym (letters_other_length _ _ c.if-a-b.false)
