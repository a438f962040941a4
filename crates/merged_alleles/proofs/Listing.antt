-- A list of ALTs in a buffer: what laying a further one makes of it.
use Prim.Native.Nat.{◌*◌, ◌+◌, ◌<◌, ◌≤◌, suc, zero, ℕ}
use lib.Dec.{eqb}
use lib.ListN.{drop, length, length-append, length-take, take}
use lib.Seq.{sets-eq, take_at}
use mathlib.Core.Bool.{Bool, cond, false, true}
use mathlib.Core.List.{List, [], ◌++◌, ◌∷◌, append_assoc}
use mathlib.Core.Path.{◌∙◌, ◌≡◌, ap, refl, sym}
use native.Mathlib.Nat.{min-eq_left}
use native.Mathlib.Numerals.{add-one}
use native.Mathlib.Omega.{arith}
use borrow.Author.Tests.{eq-eqb, eqb-true}
use Rattle.definitions.specs.Bytes.{comma, fields_of, joined_by}
use Rattle.definitions.specs.Lists.{split_where, to_first}
use Rattle.kv_write.proofs.Laying.{laid_length}
use Rattle.kv_write.specs.Laid.{Laid}
use Rattle.laws.proofs.Fields.{Free, fields_cons, fields_free, split_cons}
use Rattle.merged_alleles.specs.Alts.{Listed, comma_behind, listed}

-- ---- fields and separators

split_append : {A : Type 0} (p : A → Bool) (s : List A) (x : A) (t : List A) → p x ≡ true
    → split_where p (s ++ x ∷ t) ≡ split_where p s ++ split_where p t
unfolding split_where to_first
split_append p [] x t h = rw h
split_append {A} p (y ∷ s) x t h = let (f, fs, e) = split_cons p s in go (p y) f fs e (split_append p s x t h)
  where
    go : (b : Bool) (f : List A) (fs : List (List A)) → split_where p s ≡ f ∷ fs
        → split_where p (s ++ x ∷ t) ≡ split_where p s ++ split_where p t
        → cond b ([] ∷ split_where p (s ++ x ∷ t)) (to_first y (split_where p (s ++ x ∷ t)))
        ≡ cond b ([] ∷ split_where p s) (to_first y (split_where p s)) ++ split_where p t
    go true f fs e r = ap (λ (l : List (List A)). [] ∷ l) r
    go false f fs e r = ap (to_first y) r ∙ rw e

fields_append : (s t : List ℕ) → fields_of comma (s ++ comma ∷ t) ≡ fields_of comma s ++ fields_of comma t
unfolding fields_of
fields_append s t = split_append (λ b. eqb b comma) s comma t (eq-eqb comma comma refl)

joined_to_first : (b : ℕ) (f : List ℕ) (fs : List (List ℕ)) → joined_by comma ((b ∷ f) ∷ fs) ≡ b ∷ joined_by comma (f ∷ fs)
unfolding joined_by
joined_to_first b f [] = refl
joined_to_first b f (g ∷ fs) = refl

joined_fields : (s : List ℕ) → joined_by comma (fields_of comma s) ≡ s
unfolding fields_of split_where to_first joined_by
joined_fields [] = refl
joined_fields (b ∷ s) = let (f, fs, e) = fields_cons comma s in go (eqb b comma) refl f fs e (joined_fields s)
  where
    go : (t : Bool) → eqb b comma ≡ t → (f : List ℕ) (fs : List (List ℕ)) → fields_of comma s ≡ f ∷ fs → joined_by comma (fields_of comma s) ≡ s
        → joined_by comma (cond t ([] ∷ fields_of comma s) (to_first b (fields_of comma s))) ≡ b ∷ s
    go true t f fs e r = ap (λ (l : List (List ℕ)). joined_by comma ([] ∷ l)) e ∙ ap (λ (l : List (List ℕ)). comma ∷ joined_by comma l) (sym e) ∙ ap (λ (l : List ℕ). comma ∷ l) r ∙ ap (λ (c : ℕ). c ∷ s) (sym (eqb-true b comma t))
    go false t f fs e r = ap (λ (l : List (List ℕ)). joined_by comma (to_first b l)) e ∙ joined_to_first b f fs ∙ ap (λ (l : List (List ℕ)). b ∷ joined_by comma l) (sym e) ∙ ap (λ (l : List ℕ). b ∷ l) r

pub joined_snoc : (fs : List (List ℕ)) (x : List ℕ) → joined_by comma (fs ++ (x ∷ [])) ≡ joined_by comma fs ++ (comma_behind (length fs) ++ x)
unfolding joined_by comma_behind
joined_snoc [] x = refl
joined_snoc (f ∷ []) x = refl
joined_snoc (f ∷ g ∷ fs) x =
    ap (λ (l : List ℕ). f ++ (comma ∷ l)) (joined_snoc (g ∷ fs) x)
    ∙ sym (append_assoc f (comma ∷ joined_by comma (g ∷ fs)) (comma ∷ x))

-- ---- bytes that are laid and fit

module _ {d d' bytes : List ℕ} {at next : ℕ} (laid : Laid d at bytes d' next) (inside : at + length bytes ≤ length d) where
  front : length (take at d) ≡ at
  front = length-take at d ∙ min-eq_left (let z : at ≤ length d = omega arith in z)

  whole : d' ≡ take at d ++ bytes ++ drop (at + length bytes) d
  whole = laid.laid ∙ sets-eq bytes d at inside

  -- they stand behind what stood before
  pub laid_behind : take next d' ≡ take at d ++ bytes
  laid_behind = ap (take next) whole ∙ take_at (take at d ++ bytes) _ next (length-append (take at d) bytes ∙ omega (arith, front, laid.next))

  -- which is as it was
  pub laid_before : take at d' ≡ take at d
  laid_before = ap (take at) (whole ∙ append_assoc (take at d) bytes _) ∙ take_at (take at d) _ at front

-- ---- the list

pub comma_short : (n : ℕ) → length (comma_behind n) ≤ 1
unfolding comma_behind
comma_short zero = omega arith
comma_short (suc n) = omega arith

-- no ALTs, and some
pub no_comma : (n : ℕ) → n ≡ 0 → comma_behind n ≡ []
unfolding comma_behind
no_comma zero h = refl
no_comma (suc n) h = absurd (omega arith)

pub a_comma : (n : ℕ) → (n ≡ 0 → ⊥) → comma_behind n ≡ 44 ∷ []
unfolding comma_behind comma
a_comma zero h = absurd (h refl)
a_comma (suc n) h = refl

pub none_listed : (d : List ℕ) (len n : ℕ) → n ≡ 0 → listed d len n ≡ []
unfolding listed
none_listed d len zero h = refl
none_listed d len (suc n) h = absurd (omega arith)

pub some_listed : (d : List ℕ) (len n : ℕ) → (n ≡ 0 → ⊥) → listed d len n ≡ fields_of comma (take len d)
unfolding listed
some_listed d len zero h = absurd (h refl)
some_listed d len (suc n) h = refl

-- its text
text_from : (d : List ℕ) (len n : ℕ) → len ≤ 257 * n → take len d ≡ joined_by comma (listed d len n)
unfolding listed joined_by
text_from d len zero h = ap (λ (k : ℕ). take k d) (let z : len ≡ 0 = omega arith in z)
text_from d len (suc n) h = sym (joined_fields (take len d))

-- one more field
fields_from : (d : List ℕ) (len n : ℕ) (alt : List ℕ) → len ≤ 257 * n → Free comma alt
    → fields_of comma (take len d ++ (comma_behind n ++ alt)) ≡ listed d len n ++ (alt ∷ [])
unfolding listed comma_behind
fields_from d len zero alt h free =
    ap (λ (k : ℕ). fields_of comma (take k d ++ alt)) (let z : len ≡ 0 = omega arith in z) ∙ fields_free comma free
fields_from d len (suc n) alt h free = fields_append (take len d) alt ∙ rw (fields_free comma free)

pub listed_same : (d d' : List ℕ) (len n : ℕ) → take len d' ≡ take len d → listed d' len n ≡ listed d len n
unfolding listed
listed_same d d' len zero e = refl
listed_same d d' len (suc n) e = ap (fields_of comma) e

listed_more : (d : List ℕ) (len n : ℕ) → listed d len (n + 1) ≡ fields_of comma (take len d)
unfolding listed
listed_more d len n = rw add-one

module _ {d : List ℕ} {len n : ℕ} (h : Listed d len n) where
  pub listed_text : take len d ≡ joined_by comma (listed d len n)
  listed_text = text_from d len n h.small

  module _ {d' : List ℕ} {next : ℕ} (alt : List ℕ) (laid : Laid d len (comma_behind n ++ alt) d' next) (short : length alt ≤ 256) where
    pub inside : len + length (comma_behind n ++ alt) ≤ 4096
    inside = omega (arith, comma_short n, length-append (comma_behind n) alt, h.small, h.few)

    fits : len + length (comma_behind n ++ alt) ≤ length d
    fits = omega (arith, inside, h.room)

    -- a further ALT is laid, and not added
    pub listed_before : listed d' len n ≡ listed d len n
    listed_before = listed_same d d' len n (laid_before laid fits)

    pub not_added : Listed d' len n
    not_added = record {
      room = rw (laid_length laid) h.room;
      few = h.few;
      small = h.small;
      count = rw listed_before h.count;
    }

    -- and added
    pub listed_behind : Free comma alt → listed d' next (n + 1) ≡ listed d len n ++ (alt ∷ [])
    listed_behind free = listed_more d' next n ∙ ap (fields_of comma) (laid_behind laid fits) ∙ fields_from d len n alt h.small free

    pub added_too : Free comma alt → n < 14 → Listed d' next (n + 1)
    added_too free few = record {
      room = rw (laid_length laid) h.room;
      few = omega arith;
      small = omega (arith, laid.next, comma_short n, length-append (comma_behind n) alt, h.small);
      count = rw (listed_behind free) (length-append (listed d len n) (alt ∷ []) ∙ omega (arith, h.count));
    }

    -- its text
    pub text_behind : take next d' ≡ joined_by comma (listed d len n ++ (alt ∷ []))
    text_behind =
        laid_behind laid fits
        ∙ ap (λ (l : List ℕ). l ++ (comma_behind n ++ alt)) listed_text
        ∙ ap (λ (k : ℕ). joined_by comma (listed d len n) ++ (comma_behind k ++ alt)) (sym h.count)
        ∙ sym (joined_snoc (listed d len n) alt)
