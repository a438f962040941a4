-- The tests of `joins`, one after the other, for a block that is held back.
use Prim.Native.Nat.{◌-◌, suc, ℕ}
use borrow.Author.Tests.{eq-eqb, ne_eqb}
use lib.Dec.{eqb}
use lib.ListN.{take}
use mathlib.Core.Bool.{Bool, ◌&&◌, false, true}
use mathlib.Core.List.{List}
use mathlib.Core.Path.{◌≡◌, refl}
use native.Mathlib.Omega.{arith}
use Rattle.definitions.specs.Bytes.{same_bytes}
use Rattle.coalescing.specs.Held.{joins_pending}
use Rattle.coalescing.specs.declared.PendingBlock.{PendingBlock}
use Rattle.std.specs.Prelude as std

module _ (held : List ℕ) (block : PendingBlock) (position letter : ℕ) (fresh : List ℕ) where
  pub at_zero : position ≡ 0 → false ≡ joins_pending held (std.Some block) position letter fresh
  unfolding joins_pending
  at_zero e = rw (ne_eqb position (suc block.loc.end.0) (λ f. omega arith))

  pub not_touching : (position - 1 ≡ block.loc.end.0 → ⊥) → false ≡ joins_pending held (std.Some block) position letter fresh
  unfolding joins_pending
  not_touching h = rw (ne_eqb position (suc block.loc.end.0) (λ f. h (omega arith)))

  pub other_ref : (block.letter ≡ letter → ⊥) → false ≡ joins_pending held (std.Some block) position letter fresh
  unfolding joins_pending
  other_ref differs = rw (ne_eqb block.letter letter differs) (go (eqb position (suc block.loc.end.0)))
    where
      go : (t : Bool) → false ≡ (t && false && same_bytes (take block.len held) fresh)
      go true = refl
      go false = refl

  pub same_ref : (position ≡ 0 → ⊥) → position - 1 ≡ block.loc.end.0 → block.letter ≡ letter
      → same_bytes (take block.len held) fresh ≡ joins_pending held (std.Some block) position letter fresh
  unfolding joins_pending
  same_ref n t agrees = rw (eq-eqb block.letter letter agrees, eq-eqb position (suc block.loc.end.0) (omega arith))
