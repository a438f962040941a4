-- Records laid behind others: their bytes and their number.
use Prim.Native.Nat.{◌+◌, ℕ}
use lib.ListN.{length, length-append}
use mathlib.Core.List.{List, ◌++◌, append_assoc, flat_map}
use mathlib.Core.Path.{◌∙◌, ◌≡◌, ap, sym}
use native.Mathlib.Omega.{arith}
use Rattle.definitions.specs.Printed.{printed_record}
use Rattle.definitions.specs.Records.{Record}
use Rattle.laws.proofs.Members.{flat_map_append}

module _ (bytes : List ℕ) (records : ℕ) (done laid : List Record) where
  pub bytes_are : bytes ++ flat_map printed_record (done ++ laid) ≡ bytes ++ flat_map printed_record done ++ flat_map printed_record laid
  bytes_are =
      ap (λ (l : List ℕ). bytes ++ l) (flat_map_append printed_record done laid)
      ∙ sym (append_assoc bytes (flat_map printed_record done) (flat_map printed_record laid))

  pub count_is : records + length (done ++ laid) ≡ records + length done + length laid
  count_is = omega (arith, length-append done laid)
