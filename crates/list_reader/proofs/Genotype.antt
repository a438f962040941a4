-- A GT by its two fields.
use Prim.Native.Nat.{◌+◌, ◌<◌, ◌≤◌, ℕ}
use lib.Dec.{leb, ltb}
use lib.ListN.{drop, length}
use mathlib.Core.Bool.{Bool, ◌&&◌, false}
use mathlib.Core.List.{List, [], ◌∷◌, map}
use mathlib.Core.Option.{Option, bind, none, some}
use mathlib.Core.Path.{◌∙◌, ◌≡◌, refl}
use native.Mathlib.Omega.{arith}
use Rattle.definitions.specs.Bytes.{fields_of, slash}
use Rattle.definitions.specs.ListReader.{gt_below, gt_of}
use Rattle.definitions.specs.Lists.{all_some, is_there}
use Rattle.definitions.specs.Numbers.{number}
use Rattle.kv_text.proofs.Fields.{field_first, field_last}
use Rattle.kv_text.specs.Fields.{between, field_length}
use Rattle.laws.proofs.Fields.{fields_cons}
use Rattle.laws.proofs.Tests.{only_if_is}

module _ (n : ℕ) where
  -- whether the fields, as numbers, are a genotype of n alleles
  abbrev pair : List (Option ℕ) → Bool
  pair os = is_there (bind (all_some os) (gt_below n))

  one : (o : Option ℕ) → pair (o ∷ []) ≡ false
  unfolding bind all_some gt_below is_there
  one none = refl
  one (some j) = refl

  first_none : (os : List (Option ℕ)) → pair (none ∷ os) ≡ false
  unfolding bind all_some is_there
  first_none os = refl

  second_none : (j : ℕ) (os : List (Option ℕ)) → pair (some j ∷ none ∷ os) ≡ false
  unfolding bind all_some is_there
  second_none j os = refl

  two : (j k : ℕ) → pair (some j ∷ some k ∷ []) ≡ (leb j k && ltb k n)
  unfolding bind all_some gt_below
  two j k = only_if_is (leb j k && ltb k n) (record { low = j; high = k })

  three : (o p q : Option ℕ) (os : List (Option ℕ)) → pair (o ∷ p ∷ q ∷ os) ≡ false
  unfolding bind all_some gt_below is_there
  three none p q os = refl
  three (some j) none q os = refl
  three (some j) (some k) none os = refl
  three (some j) (some k) (some l) os = go (all_some os) refl
    where
      go : (r : Option (List ℕ)) → all_some os ≡ r → pair (some j ∷ some k ∷ some l ∷ os) ≡ false
      go none e = rw e
      go (some ns) e = rw e

  module _ (v : List ℕ) (e : ℕ) (ends : e ≡ 0 + field_length 47 (drop 0 v)) where
    pub gt_one : length v ≤ e → false ≡ is_there (gt_of n v)
    unfolding gt_of slash
    gt_one h = rw (field_last 47 v 0 e ends (omega arith) h, one (number (between v 0 e)))

    module _ (more : e < length v) (f : ℕ) (ends₂ : f ≡ e + 1 + field_length 47 (drop (e + 1) v)) where
      pub gt_three : f < length v → false ≡ is_there (gt_of n v)
      unfolding gt_of slash
      gt_three h = let (g, gs, c) = fields_cons 47 (drop (f + 1) v) in
          rw (
            field_first 47 v 0 e ends more,
            field_first 47 v (e + 1) f ends₂ h,
            c,
            three (number (between v 0 e)) (number (between v (e + 1) f)) (number g) (map number gs),
          )

      module _ (last : length v ≤ f) where
        fields : fields_of 47 v ≡ between v 0 e ∷ between v (e + 1) f ∷ []
        fields = field_first 47 v 0 e ends more ∙ rw (field_last 47 v (e + 1) f ends₂ (omega arith) last)

        pub gt_low_wrong : number (between v 0 e) ≡ none → false ≡ is_there (gt_of n v)
        unfolding gt_of slash
        gt_low_wrong h = rw (fields, h, first_none _)

        module _ (j : ℕ) (low : number (between v 0 e) ≡ some j) where
          pub gt_high_wrong : number (between v (e + 1) f) ≡ none → false ≡ is_there (gt_of n v)
          unfolding gt_of slash
          gt_high_wrong h = rw (fields, low, h, second_none j _)

          pub gt_two : (k : ℕ) → number (between v (e + 1) f) ≡ some k → (leb j k && ltb k n) ≡ is_there (gt_of n v)
          unfolding gt_of slash
          gt_two k h = rw (fields, low, h, two j k)
