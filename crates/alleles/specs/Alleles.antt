-- What checking a REF and a list of ALTs finds.
use Rattle.std.specs.Prelude.{◌≤◌, suc, ℕ, length, Bool, List, ◌≡◌}
use Rattle.std.proofs.Math.Option.{none, some}
use Rattle.definitions.specs.Alleles.{has_non_ref, ref_alts_of}
use Rattle.definitions.specs.Bytes.{comma, fields_of}
use Rattle.laws.proofs.AllelesAsRead.{ref_alts_as_read}
use Rattle.alleles.specs.declared.CheckedAlleles.{CheckedAlleles}
use Rattle.std.specs.Prelude as std

-- of alleles of 1 to `most` letters, at most `count`: what they are, how many, and whether `<NON_REF>` is among the ALTs
pub record AllelesRight (most count : ℕ) (ref alt : List ℕ) (n : ℕ) (non_ref : Bool) : Type 0 where
  pub right : ref_alts_of most count ref alt ≡ some (ref_alts_as_read ref (fields_of comma alt))
  pub number : n ≡ suc (length (fields_of comma alt))
  pub few : n ≤ count
  pub has : non_ref ≡ has_non_ref (ref_alts_as_read ref (fields_of comma alt))

unfoldable pub AllelesFound : ℕ → ℕ → List ℕ → List ℕ → std.Option CheckedAlleles → Type 0
AllelesFound most count ref alt (std.Some checked) = AllelesRight most count ref alt checked.count checked.has_non_ref
AllelesFound most count ref alt std.None = ref_alts_of most count ref alt ≡ none
