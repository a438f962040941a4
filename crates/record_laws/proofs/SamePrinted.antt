-- `same_printed`: the data of samples agree if they are printed alike, where each GT follows from PL.
use Prim.Native.Nat.{◌<◌, ℕ}
use Prim.Native.String.{String}
use borrow.Author.Tests.{eqb-true}
use lib.Dec.{eqb}
use lib.ListN.{drop, get_or}
use mathlib.Core.Bool.{◌&&◌, true}
use mathlib.Core.List.{List, [], ◌∷◌, flat_map, map}
use mathlib.Core.Option
use mathlib.Core.Option.{none, some}
use mathlib.Core.Path.{◌∙◌, ◌≡◌, ap, ap₂, refl, sym}
use native.Mathlib.Omega.{arith}
use Rattle.definitions.specs.Bytes.{same_bytes}
use Rattle.definitions.specs.Genotypes.{SampleData, best_genotype}
use Rattle.definitions.specs.Lines.{Line, key_of, lines_of, value_of}
use Rattle.definitions.specs.Lists.{same_each}
use Rattle.definitions.specs.Numbers.{decimal, decimals, written_or_missing}
use Rattle.definitions.specs.Printed.{printed_sample_data}
use Rattle.definitions.specs.Records.{same_sample_data}
use Rattle.laws.proofs.Bytes.{is_same, same_is}
use Rattle.laws.proofs.Every.{Every, also, every_all}
use Rattle.laws.proofs.Lines.{keyed, keyed_value, lays_flat_map, lays_lines}
use Rattle.laws.proofs.RecordLines.{data_lays}
use Rattle.laws.proofs.RecordReadBack.{lines_of_sample}
use Rattle.laws.proofs.SameData.{same_written}
use Rattle.laws.proofs.SoundRecords.{SoundSampleData}
use Rattle.laws.proofs.Tests.{bool_ext, both, both_of, same_option_lem, some_same}

-- a sample's data in a record with n alleles, whose GT follows from PL
pub record Derived (n : ℕ) (v : SampleData) : Type 0 where
  pub sound : SoundSampleData n v
  pub gt : v.gt ≡ Option.map (best_genotype n) v.pl

-- ---- data that agree are the same

data_is : (n : ℕ) (v w : SampleData) → Derived n v → Derived n w → same_sample_data v w ≡ true → v ≡ w
unfolding same_sample_data
data_is n v w a b h =
    let first = both_of _ _ h in
    let second = both_of _ _ first.0 in
    let third = both_of _ _ second.0 in
    let fourth = both_of _ _ third.0 in
    let pl : v.pl ≡ w.pl = same_option_lem same_bytes same_is _ _ fourth.0 in
    let ad : v.ad ≡ w.ad = same_option_lem same_bytes same_is _ _ fourth.1 in
    let dp : v.dp ≡ w.dp = same_option_lem eqb eqb-true _ _ third.1 in
    let mindp : v.mindp ≡ w.mindp = same_option_lem eqb eqb-true _ _ second.1 in
    let gq : v.gq ≡ w.gq = same_option_lem eqb eqb-true _ _ first.1 in
    let gt : v.gt ≡ w.gt = a.gt ∙ ap (Option.map (best_genotype n)) pl ∙ sym b.gt in
    λ i. record { gt = gt i; gq = gq i; dp = dp i; mindp = mindp i; ad = ad i; pl = pl i }

all_data_is : (n : ℕ) (vs ws : List SampleData) → Every (Derived n) vs → Every (Derived n) ws
    → same_each same_sample_data vs ws ≡ true → vs ≡ ws
unfolding same_each
all_data_is n [] [] a b h = refl
all_data_is n [] (w ∷ ws) a b h = let z : ◌≡◌ {A = ℕ} 0 1 = cc in absurd (omega arith)
all_data_is n (v ∷ vs) [] a b h = let z : ◌≡◌ {A = ℕ} 0 1 = cc in absurd (omega arith)
all_data_is n (v ∷ vs) (w ∷ ws) (also a as') (also b bs) h =
    let (first, rest) = both_of _ _ h in
    ap₂ (λ (x : SampleData) (l : List SampleData). x ∷ l) (data_is n v w a b first) (all_data_is n vs ws as' bs rest)

-- ---- data that are printed alike agree

-- the lines of samples
lines_of_all : List SampleData → List Line
lines_of_all vs = map some (flat_map lines_of_sample vs)

printed_lines : (vs : List SampleData) → lines_of (flat_map printed_sample_data vs) ≡ lines_of_all vs
unfolding lines_of_all
printed_lines vs = lays_lines (lays_flat_map printed_sample_data lines_of_sample (every_all data_lays vs))

same_value : (key : String) (s t : List ℕ) → ◌≡◌ {A = Line} (some (keyed key s)) (some (keyed key t)) → same_bytes s t ≡ true
same_value key s t e = is_same (some_same (sym (keyed_value key s) ∙ ap (value_of (key_of key)) e ∙ keyed_value key t))

same_lines : (n : ℕ) (vs ws : List SampleData) → 0 < n → Every (Derived n) vs → Every (Derived n) ws
    → lines_of_all vs ≡ lines_of_all ws → same_each same_sample_data vs ws ≡ true
unfolding lines_of_all flat_map same_each
same_lines n [] [] h a b e = refl
same_lines n [] (w ∷ ws) h a b e = let z : ◌≡◌ {A = ℕ} 0 1 = cc in absurd (omega arith)
same_lines n (v ∷ vs) [] h a b e = let z : ◌≡◌ {A = ℕ} 0 1 = cc in absurd (omega arith)
same_lines n (v ∷ vs) (w ∷ ws) h (also a as') (also b bs) e =
    both (same_written n v w h a.sound b.sound ∙ values) (same_lines n vs ws h as' bs (ap (drop 6) e))
  where
    line : (k : ℕ) → get_or (lines_of_all (v ∷ vs)) k none ≡ get_or (lines_of_all (w ∷ ws)) k none
    line k = ap (λ (l : List Line). get_or l k none) e

    values : (same_bytes (written_or_missing decimals v.pl) (written_or_missing decimals w.pl)
        && same_bytes (written_or_missing decimals v.ad) (written_or_missing decimals w.ad)
        && same_bytes (written_or_missing decimal v.dp) (written_or_missing decimal w.dp)
        && same_bytes (written_or_missing decimal v.mindp) (written_or_missing decimal w.mindp)
        && same_bytes (written_or_missing decimal v.gq) (written_or_missing decimal w.gq)) ≡ true
    values =
        both (both (both (both
        (same_value "pl" _ _ (line 5))
        (same_value "ad" _ _ (line 4)))
        (same_value "dp" _ _ (line 2)))
        (same_value "mindp" _ _ (line 3)))
        (same_value "gq" _ _ (line 1))

-- ---- both ways

pub same_printed : (n : ℕ) (vs ws : List SampleData) → 0 < n → Every (Derived n) vs → Every (Derived n) ws
    → same_each same_sample_data vs ws ≡ same_bytes (flat_map printed_sample_data vs) (flat_map printed_sample_data ws)
same_printed n vs ws h a b = bool_ext _ _
    (λ e. is_same (ap (flat_map printed_sample_data) (all_data_is n vs ws a b e)))
    (λ e. same_lines n vs ws h a b (sym (printed_lines vs) ∙ ap lines_of (same_is _ _ e) ∙ printed_lines ws))
