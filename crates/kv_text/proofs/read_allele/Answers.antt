-- `*` and `<NON_REF>` by their spelling, else letters.
use Prim.Native.Nat.{ℕ}
use mathlib.Core.Bool.{false, true}
use mathlib.Core.List.{List, map}
use mathlib.Core.Option.{none, some}
use mathlib.Core.Path.{◌∙◌, ◌≡◌, sym}
use Rattle.definitions.specs.Alleles.{allele_of, capital, letters, letters_of, non_ref, span_del, spelled}
use Rattle.definitions.specs.Bytes.{same_bytes, text}
use Rattle.definitions.specs.Lists.{is_there}
use Rattle.laws.proofs.Capitals.{letters_raised}
use Rattle.laws.proofs.Tests.{not_there}
use Rattle.kv_text.proofs.read_allele.Goals as goal

module _ (s : List ℕ) (most : ℕ) where
  span-del : same_bytes s (text "*") ≡ true → some span_del ≡ allele_of most s
  unfolding allele_of spelled
  span-del h = rw h

  module _ (h : same_bytes s (text "*") ≡ false) where
    is_non_ref : same_bytes s (text "<NON_REF>") ≡ true → some non_ref ≡ allele_of most s
    unfolding allele_of spelled
    is_non_ref k = rw (h, k)

    module _ (k : same_bytes s (text "<NON_REF>") ≡ false) where
      of-letters : is_there (letters_of most s) ≡ true → some (letters (map capital s)) ≡ allele_of most s
      unfolding allele_of spelled
      of-letters t = rw (h, k, letters_raised most s t)

      fault : is_there (letters_of most s) ≡ false → none ≡ allele_of most s
      unfolding allele_of spelled
      fault t = rw (h, k, not_there (letters_of most s) t)

pub returns-then-same_bytes : goal.returns-then-same_bytes
unfolding text
returns-then-same_bytes c = span-del _ _ (sym c.same_bytes.ensures ∙ c.if-same_bytes.true)

pub returns-then-same_bytes-2 : goal.returns-then-same_bytes-2
unfolding text
returns-then-same_bytes-2 c = is_non_ref _ _ (sym c.same_bytes.ensures ∙ c.if-same_bytes.false) (sym c.same_bytes-2.ensures ∙ c.if-same_bytes-2.true)

pub returns-then-is_letters : goal.returns-then-is_letters
unfolding text
returns-then-is_letters c = of-letters _ _ (sym c.same_bytes.ensures ∙ c.if-same_bytes.false) (sym c.same_bytes-2.ensures ∙ c.if-same_bytes-2.false) (sym c.is_letters.ensures ∙ c.if-is_letters.true)

pub returns : goal.returns
unfolding text
returns c = fault _ _ (sym c.same_bytes.ensures ∙ c.if-same_bytes.false) (sym c.same_bytes-2.ensures ∙ c.if-same_bytes-2.false) (sym c.is_letters.ensures ∙ c.if-is_letters.false)
