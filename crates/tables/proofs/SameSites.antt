-- The site of a row is the same where its columns are, or where they say the same numbers; the rows of sites do not see what stands
-- behind those of 4,096 sites.
use Prim.Native.Nat.{◌*◌, ◌+◌, ◌/◌, ◌<◌, ◌≤◌, ℕ}
use lib.ListN.{get_or, length}
use mathlib.Core.Bool.{Bool, false, true}
use mathlib.Core.List.{List, map}
use mathlib.Core.Option.{Option, some}
use mathlib.Core.Path.{◌∙◌, ◌≡◌, ap, refl, sym}
use native.Mathlib.Omega.{arith}
use Rattle.definitions.specs.Cohort.{Site}
use Rattle.definitions.specs.Lists.{numbers_from}
use Rattle.tables.proofs.NumberLists.{in_row, in_text, stored_few}
use Rattle.tables.proofs.Stored.{map_same}
use Rattle.tables.specs.Tables.{SiteRows, ad_at, column, depth_at, is_stored, numbers_at, part_at, pl_at, site_at, stored_number, stored_numbers}

-- ---- one row

-- a site is what its first 13 columns and its two lists say
pub same_site_by : (s rows after : List ℕ) (site : ℕ) → ((k : ℕ) → k < 13 → column k after site ≡ column k rows site)
    → ad_at s after site ≡ ad_at s rows site → pl_at s after site ≡ pl_at s rows site → site_at s after site ≡ site_at s rows site
unfolding site_at part_at depth_at
same_site_by s rows after site same ad pl = rw (
  same 0 (omega arith),
  same 2 (omega arith),
  same 3 (omega arith),
  same 5 (omega arith),
  same 6 (omega arith),
  same 7 (omega arith),
  same 8 (omega arith),
  same 9 (omega arith),
  same 10 (omega arith),
  same 11 (omega arith),
  same 12 (omega arith),
  ad,
  pl,
)

-- a list is what its columns say, which end before `last`
pub same_numbers : (s rows after : List ℕ) (site k most last : ℕ) → k + 2 < last → 2 * (k + 1) + most ≤ 2 * last
    → ((j : ℕ) → k ≤ j → j < last → column j after site ≡ column j rows site) → numbers_at k most s after site ≡ numbers_at k most s rows site
unfolding part_at stored_number stored_numbers
same_numbers s rows after site k most last h few same = go (is_stored most (column k rows site)) refl
  where
    here : column k after site ≡ column k rows site
    here = same k (omega arith) (omega arith)

    one : column k rows site ≤ most → (i : ℕ) → i < 0 + column k rows site → stored_number k after site i ≡ stored_number k rows site i
    one fit i b = rw (same (k + 1 + i / 2) (omega arith) (omega arith))

    listed : column k rows site ≤ most → stored_numbers k after site ≡ stored_numbers k rows site
    listed fit = rw here (map_same (stored_number k after site) (stored_number k rows site) 0 (column k rows site) (one fit))

    go : (b : Bool) → is_stored most (column k rows site) ≡ b → numbers_at k most s after site ≡ numbers_at k most s rows site
    go true e =
        in_row k most s after site (rw here e)
        ∙ ap {B = Option (List ℕ)} some (listed (stored_few most (column k rows site) e))
        ∙ sym (in_row k most s rows site e)
    go false e =
        in_text k most s after site (rw here e)
        ∙ rw (same (k + 1) (omega arith) (omega arith), same (k + 2) (omega arith) (omega arith)) (sym (in_text k most s rows site e))

pub same_columns : (s rows after : List ℕ) (site : ℕ) → ((k : ℕ) → k < 22 → column k after site ≡ column k rows site)
    → site_at s after site ≡ site_at s rows site
same_columns s rows after site same =
    same_site_by s rows after site (λ k h. same k (omega arith))
    (same_numbers s rows after site 13 4 16 (omega arith) (omega arith) (λ j _ h. same j (omega arith)))
    (same_numbers s rows after site 16 10 22 (omega arith) (omega arith) (λ j _ h. same j h))

-- ---- all rows

module _ (s rows after : List ℕ) (same : (j : ℕ) → j < 90112 → get_or after j 0 ≡ get_or rows j 0) where
  pub same_column : (k site : ℕ) → k < 22 → site < 4096 → column k after site ≡ column k rows site
  unfolding column
  same_column k site h b = same _ (omega arith)

  pub same_part : (from to site : ℕ) → from < 22 → to < 22 → site < 4096 → part_at from to s after site ≡ part_at from to s rows site
  unfolding part_at
  same_part from to site f t b = rw (same_column from site f b, same_column to site t b)

  pub same_site : (site : ℕ) → site < 4096 → site_at s after site ≡ site_at s rows site
  same_site site b = same_columns s rows after site (λ k h. same_column k site h b)

  pub same_sites : (count : ℕ) → count ≤ 4096 → map (site_at s after) (numbers_from 0 count) ≡ map (site_at s rows) (numbers_from 0 count)
  same_sites count few = map_same (site_at s after) (site_at s rows) 0 count (λ i h. same_site i (omega arith))

  pub same_rows : {sites : List Site} → length sites ≤ 4096 → SiteRows s rows sites → SiteRows s after sites
  same_rows {sites} few t = record {
    read = t.read ∙ sym (same_sites (length sites) few);
    contigs = λ site h.
        let b : site < 4096 = omega arith in
        rw (same_part 7 8 site (omega arith) (omega arith) b, same_column 1 site (omega arith) b) (t.contigs site h);
    blocks = λ site h.
        let b : site < 4096 = omega arith in
        rw (same_column 4 site (omega arith) b, same_site site b) (t.blocks site h);
  }
