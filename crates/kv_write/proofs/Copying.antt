-- What a loop that copies bytes over as many knows: the bytes before i are copied.
use Prim.Native.Nat.{◌+◌, ◌≤◌, ◌<◌, ℕ}
use lib.ListN.{get_or, length, length-set, set, take}
use lib.Seq.{take_all, take-suc, take-suc-set}
use mathlib.Core.List.{List}
use mathlib.Core.Path.{◌∙◌, ◌≡◌, sym}
use native.Mathlib.Numerals.{add-one}
use native.Mathlib.Omega.{arith}

pub record Copied (bytes to : List ℕ) (i : ℕ) : Type 0 where
  pub size : length to ≡ length bytes
  pub same : take i to ≡ take i bytes

pub copied_next : {bytes to : List ℕ} {i b : ℕ} → Copied bytes to i → i < length bytes → b ≡ get_or bytes i 0 → Copied bytes (set to i b) (i + 1)
copied_next {bytes} {to} {i} {b} p h e =
    record {
      size = length-set to i b ∙ p.size;
      same = rw (add-one, take-suc-set to i b (omega (arith, p.size)), take-suc bytes i 0 h, p.same, e);
    }

pub copied_all : {bytes to : List ℕ} {i : ℕ} → Copied bytes to i → length bytes ≤ i → to ≡ bytes
copied_all {bytes} {to} {i} p h = sym (take_all i to (omega (arith, p.size))) ∙ p.same ∙ take_all i bytes h
