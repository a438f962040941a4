-- Bytes laid over a buffer: the laws for the proofs of the writers and of their callers. `sets d at bytes` of lib.Seq
-- stores the bytes that fit; `Laid` is what a writer promises; `Left` is the invariant of a writer's loop.
use Prim.Native.Nat.{◌+◌, ◌-◌, ◌<◌, ◌^◌, ◌≤◌, suc, ℕ}
use lib.ListN.{drop, length, length-append, length-map, take, take-append-drop}
use lib.Seq.{drop-drop, length-sets, length-take-le, set_out, sets, sets-eq}
use mathlib.Core.List.{List, [], ◌++◌, ◌∷◌, append_assoc, map}
use mathlib.Core.Path.{◌∙◌, ◌≡◌, ap, refl, sym}
use native.Mathlib.Nat.{add-suc, add-zero, suc-add, zero-add}
use native.Mathlib.Omega.{arith}
use Rattle.laws.proofs.Members.{take_map}
use Rattle.kv_write.specs.Laid.{Laid}

-- sets

-- laying xs and then ys is laying both
pub sets_append : (d : List ℕ) (at : ℕ) (xs ys : List ℕ) → sets d at (xs ++ ys) ≡ sets (sets d at xs) (at + length xs) ys
sets_append d at [] ys = rw add-zero
sets_append d at (x ∷ xs) ys = sets_append _ (suc at) xs ys ∙ rw (suc-add at (length xs), add-suc at (length xs))

-- nothing fits past the end
pub sets_past : (d : List ℕ) (at : ℕ) (bytes : List ℕ) → length d ≤ at → sets d at bytes ≡ d
sets_past d at [] h = refl
sets_past d at (b ∷ bytes) h = rw (set_out d at b h) (sets_past d (suc at) bytes (omega arith))

-- nothing fits in no room
pub sets_nothing : (at : ℕ) (bytes : List ℕ) → sets [] at bytes ≡ []
sets_nothing at bytes = sets_past [] at bytes (omega arith)

-- bytes that fit stand at the front, and the rest is as it was
pub sets_front : {A : Type 0} (d bytes : List A) → length bytes ≤ length d → sets d 0 bytes ≡ bytes ++ drop (length bytes) d
sets_front d bytes h = sets-eq bytes d 0 (omega arith) ∙ rw zero-add

-- Laid

-- no bytes are laid
pub laid_none : {d : List ℕ} {at : ℕ} → Laid d at [] d at
laid_none {at = at} = record { next = sym (add-zero at); laid = refl }

-- the buffer ends before the offset: nothing is laid
pub laid_past : {d bytes : List ℕ} {at count : ℕ} → count ≡ length bytes → length d ≤ at → Laid d at bytes d (at + count)
laid_past {d} {bytes} {at} e h = record { next = rw e; laid = sym (sets_past d at bytes h) }

-- all the bytes fit, and took the place of as many
pub laid_whole : {d bytes part : List ℕ} {at count : ℕ} → count ≡ length bytes → at + count ≤ length d → part ≡ bytes
    → Laid d at bytes (take at d ++ (part ++ drop (at + count - at) (drop at d))) (at + count)
laid_whole {d} {bytes} {part} {at} {count} e h p =
    let same : at + count - at ≡ length bytes = omega arith in
    record {
      next = rw e;
      laid = rw (p, same, drop-drop (length bytes) at d) (sym (append_assoc (take at d) bytes _) ∙ sym (sets-eq bytes d at (omega arith)));
    }

-- the buffer ends among the bytes, and the first of them took the place of what stood behind the offset
pub laid_start : {d bytes part : List ℕ} {at : ℕ} → at ≤ length d → length d ≤ at + length bytes → part ≡ take (length d - at) bytes
    → Laid d at bytes (take at d ++ (part ++ drop (length d - at) (drop at d))) (at + length bytes)
laid_start {d} {bytes} {part} {at} l h p =
    let room = length d - at in
    let size : length (take room bytes) ≡ room = length-take-le room bytes (omega arith) in
    let all : take room bytes ++ drop room bytes ≡ bytes = take-append-drop room bytes in
    let first : length (sets d at (take room bytes)) ≤ at + length (take room bytes) = omega (arith, length-sets d at (take room bytes)) in
    record {
      next = refl;
      laid =
          rw (p, drop-drop room at d) (sym (append_assoc (take at d) (take room bytes) _))
          ∙ ap (λ n. take at d ++ take room bytes ++ drop (at + n) d) (sym size)
          ∙ sym (sets-eq (take room bytes) d at (omega arith))
          ∙ sym (sets_past (sets d at (take room bytes)) (at + length (take room bytes)) (drop room bytes) first)
          ∙ sym (sets_append d at (take room bytes) (drop room bytes))
          ∙ ap (sets d at) all;
    }

-- the same where each byte is laid as another
pub laid_start_map : (f : ℕ → ℕ) (bytes : List ℕ) {d part : List ℕ} {at : ℕ} → at ≤ length d → length d ≤ at + length bytes
    → part ≡ map f (take (length d - at) bytes)
    → Laid d at (map f bytes) (take at d ++ (part ++ drop (length d - at) (drop at d))) (at + length bytes)
laid_start_map f bytes {d} {part} {at} l h p =
    let start = laid_start {d = d} {bytes = map f bytes} {part = part} {at = at} l (rw (length-map bytes f) h)
    (p ∙ sym (take_map f bytes (length d - at))) in
    record { next = ap (λ (n : ℕ). at + n) (sym (length-map bytes f)); laid = start.laid }

-- bytes are laid, and then bytes behind them
pub laid_append : {d d' d'' xs ys : List ℕ} {at at' at'' : ℕ}
    → Laid d at xs d' at' → Laid d' at' ys d'' at'' → Laid d at (xs ++ ys) d'' at''
laid_append {d = d} {xs = xs} {ys = ys} {at = at} p q =
    record {
      next = omega (arith, p.next, q.next, length-append xs ys);
      laid = q.laid ∙ rw (p.laid, p.next) (sym (sets_append d at xs ys));
    }

-- the buffer keeps its length
pub laid_length : {d d' bytes : List ℕ} {at at' : ℕ} → Laid d at bytes d' at' → length d' ≡ length d
laid_length {d} {d'} {bytes} {at} p = ap length p.laid ∙ length-sets d at bytes

-- measuring on an empty part of d changes nothing: d is again the part that is handed back and what stands behind it
pub measured : {part bytes : List ℕ} {at r : ℕ} → Laid [] at bytes part r → (d : List ℕ) → part ++ d ≡ d
measured {part} {bytes} {at} p d = rw (p.laid, sets_nothing at bytes)

-- what the call that lays xs requires, and the call that lays ys behind them
pub fits_first : (at : ℕ) (xs ys : List ℕ) → at + length (xs ++ ys) < 2 ^ 64 → at + length xs < 2 ^ 64
fits_first at xs ys h = omega (arith, length-append xs ys)

pub fits_rest : {d d' xs : List ℕ} {at at' : ℕ} (ys : List ℕ)
    → Laid d at xs d' at' → at + length (xs ++ ys) < 2 ^ 64 → at' + length ys < 2 ^ 64
fits_rest {xs = xs} ys p h = omega (arith, p.next, length-append xs ys)

-- Left

-- `all` was to be laid over d₀ from at₀ on, and laying the rest over d from `at` on comes to the same
pub record Left (d₀ : List ℕ) (at₀ : ℕ) (all d : List ℕ) (at : ℕ) (rest : List ℕ) : Type 0 where
  pub same : sets d at rest ≡ sets d₀ at₀ all
  pub place : at + length rest ≡ at₀ + length all
  pub fits : at + length rest < 2 ^ 64

-- all is left
pub start : {d : List ℕ} {at : ℕ} {all : List ℕ} → at + length all < 2 ^ 64 → Left d at all d at all
start h = record { same = refl; place = refl; fits = h }

module _ {d₀ : List ℕ} {at₀ : ℕ} {all d : List ℕ} {at : ℕ} where
  -- what the call that lays the next bytes requires
  pub room : (bytes rest : List ℕ) → Left d₀ at₀ all d at (bytes ++ rest) → at + length bytes < 2 ^ 64
  room bytes rest l = fits_first at bytes rest l.fits

  -- the next bytes are laid
  pub several : {bytes rest d' : List ℕ} {at' : ℕ}
      → Laid d at bytes d' at' → Left d₀ at₀ all d at (bytes ++ rest) → Left d₀ at₀ all d' at' rest
  several {bytes} {rest} p l =
      record {
        same = rw (p.laid, p.next, ← sets_append d at bytes rest) l.same;
        place = omega (arith, p.next, l.place, length-append bytes rest);
        fits = fits_rest rest p l.fits;
      }

  -- the next byte is laid
  pub one : {b : ℕ} {rest d' : List ℕ} {at' : ℕ}
      → Laid d at (b ∷ []) d' at' → Left d₀ at₀ all d at (b ∷ rest) → Left d₀ at₀ all d' at' rest
  one = several

  -- the rest said another way
  pub recast : {rest rest' : List ℕ} → rest ≡ rest' → Left d₀ at₀ all d at rest → Left d₀ at₀ all d at rest'
  recast e l = rw (← e) l

  -- nothing is left
  pub done : Left d₀ at₀ all d at [] → Laid d₀ at₀ all d at
  done l = record { next = sym (add-zero at) ∙ l.place; laid = l.same }

  -- the last bytes are laid
  pub last : {bytes d' : List ℕ} {at' : ℕ} → Laid d at bytes d' at' → Left d₀ at₀ all d at bytes → Laid d₀ at₀ all d' at'
  last p l = record { next = p.next ∙ l.place; laid = p.laid ∙ l.same }

  -- the buffer keeps its length
  pub left_length : {rest : List ℕ} → Left d₀ at₀ all d at rest → length d ≡ length d₀
  left_length {rest} l = sym (length-sets d at rest) ∙ ap length l.same ∙ length-sets d₀ at₀ all
