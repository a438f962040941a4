-- The bits are no NaN's: without the sign's bit they are not above infinity's.
use Prim.Native.Nat.{◌%◌, ◌≤◌, ℕ}
use borrow.Author.Rules.{rules}
use borrow.Author.Tests.{le-ltb}
use lib.Dec.{T}
use lib.Ieee.Bits.{nan_bits_above}
use lib.Ieee.{binary64, nan_bits}
use mathlib.Core.Bool.{not}
use Rattle.replay_alleles.proofs.values.value_of.Goals as goal

no_nan : (n : ℕ) → n % 9223372036854775808 ≤ 9218868437227405312 → T (not (nan_bits binary64 n))
no_nan n h = rw (nan_bits_above binary64 n, le-ltb 9218868437227405312 (n % 9223372036854775808) h) tt

pub float_from_bits-result : goal.float_from_bits-result
unfolding nan_bits
float_from_bits-result c = tt

pub float_from_bits-result-2 : goal.float_from_bits-result-2
float_from_bits-result-2 c = no_nan _ c.if-size-gt9218868437227405312.false
