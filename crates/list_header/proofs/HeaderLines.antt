-- The lines of the header, one by one, and that they fit.
use Prim.Native.Nat.{◌*◌, ◌+◌, ◌-◌, ◌/◌, ◌<◌, ◌^◌, ◌≤◌, suc, zero, ℕ}
use lib.ListN.{drop, get_or, length, length-append, length-map, take}
use lib.Seq.{drop-drop, get_or-drop, get_or-take, length-take-le}
use mathlib.Core.List.{List, ◌++◌, append_assoc, flat_map, map}
use mathlib.Core.Path.{◌∙◌, ◌≡◌, ap, ap₂, refl}
use native.Mathlib.Nat.{add-zero}
use native.Mathlib.Omega.{arith}
use Rattle.definitions.specs.Lines.{key_of, line}
use Rattle.definitions.specs.Lists.{numbers_from}
use Rattle.definitions.specs.Numbers.{decimal}
use Rattle.definitions.specs.Printed.{printed_header}
use Rattle.kv_text.specs.Fields.{between}
use Rattle.kv_write.specs.Keyed.{keyed}
use Rattle.laws.proofs.Decimals.{decimal_length}
use Rattle.laws.proofs.Members.{length_numbers}
use Rattle.std.specs.Simd.{first_chunks}
use Rattle.list_header.specs.HeaderNames.{HeaderNames}
use Rattle.record_laws.proofs.Lengths.{header_few, most_header}
use Rattle.tables.specs.Tables.{name_at, names_in}

names_length : (s names : List ℕ) (samples : ℕ) → length (names_in s names samples) ≡ samples
unfolding names_in
names_length s names samples = length-map (numbers_from 0 samples) (name_at s names) ∙ length_numbers 0 samples

module _ (s names : List ℕ) (samples records : ℕ) where
  -- the lines from this sample's on
  unfoldable pub lines_from : ℕ → List ℕ
  lines_from i = flat_map (line "sample") (map (name_at s names) (numbers_from i (samples - i))) ++ line "records" (decimal records)

  names_from : names_in s names samples ≡ map (name_at s names) (numbers_from 0 (samples - 0))
  unfolding names_in
  names_from = let e : samples - 0 ≡ samples = omega arith in rw e

  pub lines_start : printed_header (names_in s names samples) records ≡ keyed (key_of "samples") (decimal samples) ++ lines_from 0
  unfolding printed_header lines_from line
  lines_start = rw (names_length s names samples, names_from) (append_assoc (line "samples" (decimal samples)) _ _)

  module _ (i : ℕ) where
    pub lines_next : (name : List ℕ) → name ≡ name_at s names i → i < samples
        → lines_from i ≡ keyed (key_of "sample") name ++ lines_from (i + 1)
    unfolding lines_from numbers_from flat_map line
    lines_next name e h =
        let m : samples - i ≡ suc (samples - (i + 1)) = omega arith in
        let n : suc i ≡ i + 1 = omega arith in
        rw (e, m, n) (append_assoc (line "sample" (name_at s names i)) _ _)

    pub lines_end : samples ≤ i → lines_from i ≡ keyed (key_of "records") (decimal records)
    unfolding lines_from numbers_from flat_map line
    lines_end h = let m : samples - i ≡ 0 = omega arith in rw m

-- ---- the places of the names, by two

pairs_at : (k i : ℕ) (xs : List ℕ) (d : List ℕ) → i < k → get_or (first_chunks 2 k xs) i d ≡ take 2 (drop (2 * i) xs)
pairs_at zero i xs d h = absurd (omega arith)
pairs_at (suc k) zero xs d h = refl
pairs_at (suc k) (suc i) xs d h =
    let e : 2 + 2 * i ≡ 2 * suc i = omega arith in
    pairs_at k i (drop 2 xs) d (omega arith) ∙ ap (take 2) (drop-drop (2 * i) 2 xs ∙ ap (λ (n : ℕ). drop n xs) e)

module _ (s names : List ℕ) (pairs : List (List ℕ)) (samples : ℕ) (all : pairs ≡ first_chunks 2 (length names / 2) names)
    (long : length pairs ≡ length names / 2) (in_table : 2 * samples ≤ length names) where
  pub pairs_length : length (take samples pairs) ≡ samples
  pairs_length = length-take-le samples pairs (omega arith)

  read_at : (i j : ℕ) (d : List ℕ) → i < samples → j < 2 → get_or (get_or (take samples pairs) i d) j 0 ≡ get_or names (2 * i + j) 0
  read_at i j d h k =
      ap (λ (l : List ℕ). get_or l j 0)
      (get_or-take samples pairs i d h ∙ ap (λ (l : List (List ℕ)). get_or l i d) all ∙ pairs_at _ i names d (omega arith))
      ∙ get_or-take 2 (drop (2 * i) names) j 0 k ∙ get_or-drop (2 * i) names j 0

  pub pair_name : (i : ℕ) (d : List ℕ) → i < samples
      → between s (get_or (get_or (take samples pairs) i d) 0 0) (get_or (get_or (take samples pairs) i d) 1 0) ≡ name_at s names i
  unfolding name_at
  pair_name i d h =
      ap₂ (between s) (read_at i 0 d h (omega arith) ∙ ap (λ (n : ℕ). get_or names n 0) (add-zero (2 * i))) (read_at i 1 d h (omega arith))

-- the bound of a header has room for the one digit of 0 records; a u32 has ten at most
pub header_fits : (s names : List ℕ) (samples records : ℕ) → HeaderNames s names samples → records < 2 ^ 32
    → length (printed_header (names_in s names samples) records) ≤ most_header + 10
unfolding printed_header line
header_fits s names samples records h small =
    let few : length (printed_header (names_in s names samples) 0) ≤ most_header =
    header_few 0 (omega (arith, names_length s names samples, h.few)) h.named (omega arith) in
    let digits : length (decimal records) ≤ 10 = decimal_length 9 records (omega arith) in
    simp length-append (omega (arith, simp length-append at few))
