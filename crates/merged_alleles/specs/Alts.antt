-- A list of ALTs as it is laid, and the letter ALTs of the sites in a table, by the bytes that spell them in either case.
use Rattle.std.specs.Prelude.{◌*◌, ◌<◌, ◌≤◌, suc, zero, ℕ, eqb, drop, length, take, Bool, cond, ◌≡◌, Option, None, Some}
use mathlib.Core.List.{List, [], ◌++◌, ◌∷◌, flat_map, foldl, map}
use Rattle.definitions.specs.Alleles.{Allele, capital, letters, non_ref, span_del, spelled, written_alleles}
use Rattle.definitions.specs.Bytes.{comma, fields_of, same_bytes}
use Rattle.definitions.specs.Cohort.{Site}
use Rattle.definitions.specs.Lists.{any_of}
use Rattle.definitions.specs.MergedAlleles.{span_del_alt}
use Rattle.tables.specs.Tables.{column, part_at, site_at}
use Rattle.merged_alleles.specs.declared.AltList.{AltList}

-- ---- ALTs by first occurrence

-- an ALT behind others, unless it is among them
unfoldable pub add_new : List (List ℕ) → List ℕ → List (List ℕ)
add_new alts f = cond (any_of (same_bytes f) alts) alts (alts ++ (f ∷ []))

-- the same for several, one after the other
abbrev pub add_all : List (List ℕ) → List (List ℕ) → List (List ℕ)
add_all = foldl add_new

-- ---- the list as it is laid

-- what a further ALT begins with: a comma, unless it is the first
unfoldable pub comma_behind : ℕ → List ℕ
comma_behind zero = []
comma_behind (suc n) = comma ∷ []

-- the n ALTs whose text is the first `len` bytes of a buffer
unfoldable pub listed : List ℕ → ℕ → ℕ → List (List ℕ)
listed d len zero = []
listed d len (suc n) = fields_of comma (take len d)

-- they are so many, and their text leaves room: 14 letter ALTs, each of at most 256 bytes and a comma, and one more
pub record Listed (d : List ℕ) (len n : ℕ) : Type 0 where
  pub room : 4096 ≤ length d
  pub few : n ≤ 14
  pub small : len ≤ 257 * n
  pub count : length (listed d len n) ≡ n

-- these ALTs were added behind others, or there are over 14
unfoldable pub Added : List (List ℕ) → List (List ℕ) → List ℕ → Option AltList → Type 0
Added alts fs d (Some list) = Listed d list.len list.count × (listed d list.len list.count ≡ add_all alts fs)
Added alts fs d None = 14 < length (add_all alts fs)

-- ---- the letter ALTs of a site

-- what a field reads as, with the end of REF that the site's own lacks, if it is letters: capitals
unfoldable pub extended_letters : List ℕ → List ℕ → List (List ℕ)
extended_letters end f =
    cond (same_bytes f (spelled span_del)) [] (cond (same_bytes f (spelled non_ref)) [] ((map capital f ++ map capital end) ∷ []))

-- those of the site in a row, if it starts at the position
unfoldable pub site_letters : List ℕ → List ℕ → List ℕ → ℕ → ℕ → List (List ℕ)
site_letters s rows ref position site =
    cond (eqb (column 2 rows site) position)
    (flat_map (extended_letters (drop (length (part_at 9 10 s rows site)) ref)) (fields_of comma (part_at 11 12 s rows site)))
    []

-- ---- all ALTs

-- the sites found
abbrev pub sites_at : List ℕ → List ℕ → List ℕ → List Site
sites_at s rows found = map (site_at s rows) found

-- behind letter ALTs: `*` if it is shown, and `<NON_REF>`
abbrev pub with_ends : List (List ℕ) → Bool → List Allele
with_ends alts shown = map letters alts ++ (span_del_alt shown ++ (non_ref ∷ []))

-- the first `len` bytes of a work buffer are the text of these ALTs, n of them; nothing is promised of what stands behind
pub record AltsWritten (alts : List Allele) (work : List ℕ) (len n : ℕ) : Type 0 where
  pub text : take len work ≡ written_alleles alts
  pub count : n ≡ length alts
  pub few : n ≤ 15

-- or there are over 15 (row 13: over 16 alleles), and nothing is promised of the work buffer
unfoldable pub AltsLaid : List Allele → List ℕ → Option AltList → Type 0
AltsLaid alts work (Some list) = AltsWritten alts work list.len list.count
AltsLaid alts work None = 15 < length alts
