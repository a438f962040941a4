-- A list that is measured on an empty part of a buffer and then written: where it ends, held at a limit, says whether it fits
-- and, if it does, where it ends. The same for how many records it has.
use Prim.Native.Nat.{◌+◌, ◌<◌, ◌^◌, ◌≤◌, min, suc, ℕ}
use borrow.Author.Tests.{le-leb, lt-leb}
use lib.Dec.{leb}
use lib.ListN.{drop, drop_of_length-le, length, length-append}
use lib.Seq.{length-sets, set_out, sets}
use mathlib.Core.List.{List, [], ◌++◌, ◌∷◌, append-nil}
use mathlib.Core.Path.{◌∙◌, ◌≡◌, ap, refl, sym}
use native.Mathlib.Decide.{dec_le}
use native.Mathlib.Nat.{zero-add}
use native.Mathlib.Omega.{arith}
use Rattle.kv_write.proofs.Laying.{sets_append, sets_front}
use Rattle.kv_write.specs.Laid.{Laid}
use Rattle.list_header.specs.Measured.{Counted, Measured, limit, most_count}

-- ---- the offset

-- nothing is stored past the end
sets_past : (d : List ℕ) (at : ℕ) (bytes : List ℕ) → length d ≤ at → sets d at bytes ≡ d
sets_past d at [] h = refl
sets_past d at (b ∷ bytes) h = rw (set_out d at b h) (sets_past d (suc at) bytes (omega arith))

-- nothing was laid
pub measured_none : {d : List ℕ} → length d ≤ limit → Measured d [] d 0
measured_none h = record { at_is = omega arith; laid = refl; small = h }

-- stored from where the offset is held, bytes change what they change from where the bytes before them end
more_laid : (d : List ℕ) (at n : ℕ) (more : List ℕ) → at ≡ min limit n → length d ≤ limit
    → sets d at more ≡ sets d n more
more_laid d at n more e h = go (dec_le n limit)
  where
    go : Dec (n ≤ limit) → sets d at more ≡ sets d n more
    go (yes low) = let same : at ≡ n = omega arith in rw same
    go (no high) =
        let held : length d ≤ at = omega arith in
        let past : length d ≤ n = omega arith in
        sets_past d at more held ∙ sym (sets_past d n more past)

-- bytes were laid behind those before
pub measured_more : {d₀ bytes d more d' : List ℕ} {at r : ℕ}
    → Measured d₀ bytes d at → Laid d at more d' r → Measured d₀ (bytes ++ more) d' (min limit r)
measured_more {d₀} {bytes} {d} {more} {d'} {at} {r} m p = record {
  at_is = omega (arith, m.at_is, p.next, length-append bytes more);
  laid =
      p.laid
      ∙ more_laid d at (length bytes) more m.at_is long
      ∙ rw (m.laid, ← zero-add (length bytes)) (sym (sets_append d₀ 0 bytes more));
  small = m.small;
}
  where
    long : length d ≤ limit
    long = omega (arith, m.small, ap length m.laid ∙ length-sets d₀ 0 bytes)

module _ {d₀ bytes d : List ℕ} {at : ℕ} (m : Measured d₀ bytes d at) where
  -- what the next call requires, of at most 2^62 bytes
  pub measured_fits : (k : ℕ) → k ≤ 4611686018427387904 → at + k < 2 ^ 64
  measured_fits k h = omega (arith, m.at_is)

  -- the offset tells whether the bytes fit in so much room
  pub measured_below : (n : ℕ) → n < limit → leb at n ≡ leb (length bytes) n
  measured_below n h = go (dec_le (length bytes) n)
    where
      go : Dec (length bytes ≤ n) → leb at n ≡ leb (length bytes) n
      go (yes low) = rw (le-leb at n (omega (arith, m.at_is)), le-leb (length bytes) n low)
      go (no high) = rw (lt-leb at n (omega (arith, m.at_is)), lt-leb (length bytes) n (omega arith))

  pub measured_length : length d₀ < limit → leb at (length d₀) ≡ leb (length bytes) (length d₀)
  measured_length = measured_below (length d₀)

  -- it is where they end, if it is not at the limit
  pub measured_at : length bytes ≤ limit → at ≡ length bytes
  measured_at h = omega (arith, m.at_is)

  -- bytes that fit stand at the front, and the rest is as it was
  pub measured_whole : length bytes ≤ length d₀ → (at ≡ length bytes) × (d ≡ bytes ++ drop (length bytes) d₀)
  measured_whole h = (measured_at (omega (arith, m.small)), m.laid ∙ sets_front d₀ bytes h)

-- bytes that are as many as a list has places are all that it holds
pub sets_whole : (d bytes : List ℕ) → length d ≡ length bytes → sets d 0 bytes ≡ bytes
sets_whole d bytes e =
    let all : length d ≤ length bytes = omega arith in
    sets_front d bytes (omega arith) ∙ rw (drop_of_length-le d all) (append-nil bytes)

-- ---- the count

pub counted_none : Counted 0 0
counted_none = record { count_is = omega arith }

pub counted_more : {n count : ℕ} → Counted n count → Counted (n + 1) (min most_count (count + 1))
counted_more c = record { count_is = omega (arith, c.count_is) }

module _ {n count : ℕ} (c : Counted n count) where
  -- the count tells whether they are at most so many
  pub counted_below : (k : ℕ) → k < most_count → leb count k ≡ leb n k
  counted_below k h = go (dec_le n k)
    where
      go : Dec (n ≤ k) → leb count k ≡ leb n k
      go (yes low) = rw (le-leb count k (omega (arith, c.count_is)), le-leb n k low)
      go (no high) = rw (lt-leb count k (omega (arith, c.count_is)), lt-leb n k (omega arith))

  -- and how many, if they are
  pub counted_at : n ≤ most_count → count ≡ n
  counted_at h = omega (arith, c.count_is)
