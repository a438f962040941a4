-- ALTs added one after the other are those by first occurrence; and none is removed.
use Prim.Native.Nat.{◌≤◌, ℕ}
use lib.ListN.{length, length-append}
use mathlib.Core.Bool.{Bool, ◌||◌, cond, false, not, true}
use mathlib.Core.List.{List, [], ◌++◌, ◌∷◌, append_assoc, append-nil}
use mathlib.Core.Path.{◌∙◌, ◌≡◌, ap, refl, sym}
use native.Mathlib.Omega.{arith}
use Rattle.definitions.specs.Bytes.{same_bytes}
use Rattle.definitions.specs.Lists.{any_of, distinct_by, filter_by}
use Rattle.laws.proofs.Bytes.{same_flip, same_is}
use Rattle.laws.proofs.Members.{filter_no}
use Rattle.merged_alleles.specs.Alts.{add_all, add_new}

pub or_true : (b : Bool) → (b || true) ≡ true
or_true true = refl
or_true false = refl

pub or_false : (b : Bool) → (b || false) ≡ b
or_false true = refl
or_false false = refl

-- ---- first occurrences

-- not among these
fresh : List (List ℕ) → List ℕ → Bool
fresh alts f = not (any_of (same_bytes f) alts)

any_snoc : (p : List ℕ → Bool) (l : List (List ℕ)) (x : List ℕ) → any_of p (l ++ (x ∷ [])) ≡ (any_of p l || p x)
unfolding any_of
any_snoc p [] x = or_false (p x)
any_snoc p (y ∷ l) x = go (p y) (any_snoc p l x)
  where
    go : (b : Bool) → any_of p (l ++ (x ∷ [])) ≡ (any_of p l || p x) → (b || any_of p (l ++ (x ∷ []))) ≡ ((b || any_of p l) || p x)
    go true e = refl
    go false e = e

module _ (alts : List (List ℕ)) (x : List ℕ) where
  abbrev others : List (List ℕ) → List (List ℕ)
  others = filter_by (λ y. not (same_bytes x y))

  -- where x is there already, leaving it out changes nothing
  old : any_of (same_bytes x) alts ≡ true → (l : List (List ℕ)) → filter_by (fresh alts) (others l) ≡ filter_by (fresh alts) l
  unfolding filter_by fresh
  old h [] = refl
  old h (y ∷ l) = go (same_bytes x y) refl (old h l)
    where
      go : (b : Bool) → same_bytes x y ≡ b → filter_by (fresh alts) (others l) ≡ filter_by (fresh alts) l
          → filter_by (fresh alts) (cond (not b) (y ∷ others l) (others l)) ≡ filter_by (fresh alts) (y ∷ l)
      go true e r = r ∙ sym (filter_no (fresh alts) y l (ap not (ap (λ (f : List ℕ). any_of (same_bytes f) alts) (sym (same_is _ _ e)) ∙ h)))
      go false e r = ap (λ (t : List (List ℕ)). cond (fresh alts y) (y ∷ t) t) r

  -- where x is added now, the rest is fresh if it is none of those and not x
  new : (l : List (List ℕ)) → filter_by (fresh alts) (others l) ≡ filter_by (fresh (alts ++ (x ∷ []))) l
  unfolding filter_by fresh
  new [] = refl
  new (y ∷ l) = go (same_bytes x y) refl (new l)
    where
      at : fresh (alts ++ (x ∷ [])) y ≡ not (any_of (same_bytes y) alts || same_bytes x y)
      at = ap not (any_snoc (same_bytes y) alts x ∙ ap (λ (b : Bool). any_of (same_bytes y) alts || b) (same_flip y x))

      left_out : same_bytes x y ≡ true → fresh (alts ++ (x ∷ [])) y ≡ false
      left_out e = at ∙ rw (e, or_true (any_of (same_bytes y) alts))

      as_before : same_bytes x y ≡ false → fresh (alts ++ (x ∷ [])) y ≡ fresh alts y
      as_before e = at ∙ rw (e, or_false (any_of (same_bytes y) alts))

      go : (b : Bool) → same_bytes x y ≡ b → filter_by (fresh alts) (others l) ≡ filter_by (fresh (alts ++ (x ∷ []))) l
          → filter_by (fresh alts) (cond (not b) (y ∷ others l) (others l)) ≡ filter_by (fresh (alts ++ (x ∷ []))) (y ∷ l)
      go true e r = r ∙ sym (filter_no (fresh (alts ++ (x ∷ []))) y l (left_out e))
      go false e r =
          ap (λ (t : List (List ℕ)). cond (fresh alts y) (y ∷ t) t) r
          ∙ sym (ap (λ (b : Bool). cond b (y ∷ filter_by (fresh (alts ++ (x ∷ []))) l) (filter_by (fresh (alts ++ (x ∷ []))) l))
          (as_before e))

added_then : (alts l : List (List ℕ)) → add_all alts l ≡ alts ++ filter_by (fresh alts) (distinct_by same_bytes l)
unfolding distinct_by filter_by add_new fresh
added_then alts [] = sym (append-nil alts)
added_then alts (x ∷ l) = go (any_of (same_bytes x) alts) refl (added_then alts l) (added_then (alts ++ (x ∷ [])) l)
  where
    rest : List (List ℕ)
    rest = distinct_by same_bytes l

    go : (b : Bool) → any_of (same_bytes x) alts ≡ b → add_all alts l ≡ alts ++ filter_by (fresh alts) rest
        → add_all (alts ++ (x ∷ [])) l ≡ (alts ++ (x ∷ [])) ++ filter_by (fresh (alts ++ (x ∷ []))) rest
        → add_all (add_new alts x) l ≡ alts ++ filter_by (fresh alts) (x ∷ others alts x rest)
    go true e same more = rw e (same ∙ ap (λ (t : List (List ℕ)). alts ++ t) (sym (old alts x e rest)))
    go false e same more =
        rw e (more ∙ append_assoc alts (x ∷ []) _ ∙ ap (λ (t : List (List ℕ)). alts ++ (x ∷ t)) (sym (new alts x rest)))

all_fresh : (l : List (List ℕ)) → filter_by (fresh []) l ≡ l
unfolding filter_by fresh any_of
all_fresh [] = refl
all_fresh (x ∷ l) = ap (λ (t : List (List ℕ)). x ∷ t) (all_fresh l)

pub added_distinct : (l : List (List ℕ)) → add_all [] l ≡ distinct_by same_bytes l
added_distinct l = added_then [] l ∙ all_fresh (distinct_by same_bytes l)

-- ---- one at a time

module _ (alts : List (List ℕ)) (f : List ℕ) where
  pub add_old : any_of (same_bytes f) alts ≡ true → add_new alts f ≡ alts
  unfolding add_new
  add_old h = rw h

  pub add_fresh : any_of (same_bytes f) alts ≡ false → add_new alts f ≡ alts ++ (f ∷ [])
  unfolding add_new
  add_fresh h = rw h

-- none is removed
pub none_removed : (alts l : List (List ℕ)) → length alts ≤ length (add_all alts l)
none_removed alts l = omega (arith, ap length (added_then alts l), length-append alts (filter_by (fresh alts) (distinct_by same_bytes l)))
