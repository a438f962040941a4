-- A row stored behind the others: the table then has one site more.
use Prim.Native.Nat.{◌*◌, ◌+◌, ◌<◌, ◌≤◌, suc, ℕ}
use borrow.Author.Tests.{le-leb}
use lib.Dec.{eqb}
use lib.ListN.{drop, get_or, length, length-map}
use lib.Seq.{drop-drop, sets}
use mathlib.Core.Bool.{Bool, cond, false, true}
use mathlib.Core.List.{List, [], ◌++◌, ◌∷◌, map, map-map}
use mathlib.Core.Option
use mathlib.Core.Option.{Option, none, some}
use mathlib.Core.Path.{◌∙◌, ◌≡◌, ap, refl, sym}
use native.Mathlib.Decide.{ℕ_discrete}
use native.Mathlib.Omega.{arith}
use Rattle.std.specs.Prelude as std
use Rattle.answers.specs.Options.{option_of}
use Rattle.definitions.specs.Alleles.{is_block}
use Rattle.definitions.specs.Bytes.{same_bytes}
use Rattle.definitions.specs.Cohort.{Site}
use Rattle.definitions.specs.Lists.{index_where, numbers_from, only_if}
use Rattle.definitions.specs.Numbers.{max_number, number_list}
use Rattle.kv_text.specs.Fields.{between}
use Rattle.laws.proofs.Bytes.{same_refl}
use Rattle.laws.proofs.Decimals.{InRange}
use Rattle.laws.proofs.Every.{IfThere}
use Rattle.laws.proofs.Members.{length_numbers}
use Rattle.laws.proofs.Tests.{not_none}
use Rattle.site_groups.specs.SiteGroups.{ValuesSmall, site_from}
use Rattle.site_groups.specs.declared.SiteAlleles.{SiteAlleles}
use Rattle.site_groups.specs.declared.SitePlace.{SitePlace}
use Rattle.site_groups.specs.declared.SiteValues.{SiteValues}
use Rattle.tables.proofs.NumberLists.{in_text}
use Rattle.tables.proofs.SameSites.{same_columns}
use Rattle.tables.proofs.Stored.{drop_sets, get_before, get_here, map_same, one_more}
use Rattle.tables.proofs.StoredLists.{first_half, second_half}
use Rattle.tables.specs.Tables.{SiteRows, code_option, column, depth_at, dp_at, half_at, is_stored, min_dp_at, numbers_at, part_at, site_at}
use Rattle.cohort.proofs.Contigs.{names_length}
use Rattle.cohort.specs.Cohort.{ContigsNumbered, code_of, contig_names, first_on, row_of, sites_in}

-- ---- index_where

module _ {A : Type 0} (p : A → Bool) where
  index_in_front : (l r : List A) (i : ℕ) → index_where p l ≡ some i → index_where p (l ++ r) ≡ some i
  unfolding index_where
  index_in_front [] r i e = not_none e
  index_in_front (x ∷ l) r i e = go (p x) (index_where p l) (index_where p (l ++ r)) (λ k. index_in_front l r k) refl e
    where
      go : (b : Bool) (o u : Option ℕ) → ((k : ℕ) → index_where p l ≡ some k → u ≡ some k) → index_where p l ≡ o
          → cond b (some 0) (Option.map suc o) ≡ some i → cond b (some 0) (Option.map suc u) ≡ some i
      go true o u rest q e = e
      go false none u rest q e = not_none e
      go false (some k) u rest q e = rw (rest k q) e

  index_last : (l : List A) (x : A) → p x ≡ true → index_where p (l ++ (x ∷ [])) ≡ some (Option.get_or (index_where p l) (length l))
  unfolding index_where
  index_last [] x e = rw e
  index_last (y ∷ l) x e = go (p y) (index_where p l) (index_last l x e)
    where
      go : (b : Bool) (o : Option ℕ) → index_where p (l ++ (x ∷ [])) ≡ some (Option.get_or o (length l))
          → cond b (some 0) (Option.map suc (index_where p (l ++ (x ∷ [])))) ≡ some (Option.get_or (cond b (some 0) (Option.map suc o)) (suc (length l)))
      go true o q = refl
      go false none q = rw q
      go false (some k) q = rw q

-- ---- a number that may be missing

-- its number in a row stands for it, and is below 2^32
code_back : (n : std.Option ℕ) → IfThere InRange (option_of n) → code_option (code_of n) ≡ option_of n
unfolding code_option only_if max_number
code_back std.None h = refl
code_back (std.Some n) h = rw (le-leb n 2147483647 h)

code_small : (n : std.Option ℕ) → IfThere InRange (option_of n) → code_of n < 4294967296
unfolding max_number
code_small std.None h = omega arith
code_small (std.Some n) h = omega arith

-- ---- a row

module _ (rows row : List ℕ) (count : ℕ) (whole : length row ≡ 22) (room : count * 22 + 22 ≤ length rows) where
  abbrev stored : List ℕ
  stored = sets rows (count * 22) row

  column_before : (k site : ℕ) → k < 22 → site < count → column k stored site ≡ column k rows site
  unfolding column
  column_before k site h b = get_before row rows (count * 22) (site * 22 + k) (omega arith)

  column_here : (k : ℕ) → k < 22 → column k stored count ≡ get_or row k 0
  unfolding column
  column_here k h = get_here row rows (count * 22) k (omega arith) (omega arith)

  rest_same : drop ((count + 1) * 22) stored ≡ drop ((count + 1) * 22) rows
  rest_same = drop_sets row rows (count * 22) ((count + 1) * 22) (omega arith)

  -- behind the rows the table stays as it was
  pub rest_more : (rows₀ : List ℕ) → drop (count * 22) rows ≡ drop (count * 22) rows₀ → drop ((count + 1) * 22) stored ≡ drop ((count + 1) * 22) rows₀
  rest_more rows₀ e =
      let there : (count + 1) * 22 ≡ count * 22 + 22 = omega arith in
      rest_same ∙ rw there (sym (drop-drop 22 (count * 22) rows) ∙ ap (drop 22) e ∙ drop-drop 22 (count * 22) rows₀)

  part_before : (s : List ℕ) (from to site : ℕ) → from < 22 → to < 22 → site < count → part_at from to s stored site ≡ part_at from to s rows site
  unfolding part_at
  part_before s from to site f t b = rw (column_before from site f b, column_before to site t b)

  site_before : (s : List ℕ) (site : ℕ) → site < count → site_at s stored site ≡ site_at s rows site
  site_before s site b = same_columns s rows stored site (λ k h. column_before k site h b)

-- ---- a site more

-- the rows of the first `count` sites say which contigs are the same, and which sites are blocks
pub record Numbered (s rows : List ℕ) (count : ℕ) : Type 0 where
  pub contigs : ContigsNumbered s rows count
  pub blocks : (site : ℕ) → site < count → eqb (column 4 rows site) 1 ≡ is_block (site_at s rows site).alleles

pub numbered_none : (s rows : List ℕ) → Numbered s rows 0
numbered_none s rows = record { contigs = λ site h. absurd (omega arith); blocks = λ site h. absurd (omega arith) }

pub sites_count : (s rows : List ℕ) (count : ℕ) → length (sites_in s rows count) ≡ count
unfolding sites_in
sites_count s rows count = length-map (numbers_from 0 count) (site_at s rows) ∙ length_numbers 0 count

-- the contigs of the sites are the names in their rows
pub site_contigs : (s rows : List ℕ) (count : ℕ) → map (λ (x : Site). x.contig) (sites_in s rows count) ≡ contig_names s rows count
unfolding sites_in contig_names site_at
site_contigs s rows count = map-map (λ (x : Site). x.contig) (site_at s rows) (numbers_from 0 count)

pub numbered_rows : (s rows : List ℕ) (count : ℕ) → Numbered s rows count → SiteRows s rows (sites_in s rows count)
numbered_rows s rows count n = record {
  read = rw (sites_count s rows count) (unfold sites_in in refl);
  contigs = λ site h. rw (site_contigs s rows count) (n.contigs site (rw (sites_count s rows count) at h));
  blocks = λ site h. n.blocks site (rw (sites_count s rows count) at h);
}

module _ (s rows : List ℕ) (count : ℕ) (p : SitePlace) (contig : ℕ) (a : SiteAlleles) (v : SiteValues) (block : Bool)
    (room : count * 22 + 22 ≤ length rows) where
  abbrev row : List ℕ
  row = row_of p contig a v block

  abbrev after : List ℕ
  after = sets rows (count * 22) row

  here : (k : ℕ) → k < 22 → column k after count ≡ get_or row k 0
  here = column_here rows row count refl room

  part_here : (from to : ℕ) → from < 22 → to < 22 → part_at from to s after count ≡ between s (get_or row from 0) (get_or row to 0)
  unfolding part_at
  part_here from to f t = rw (here from f, here to t)

  -- a list in the text
  list_here : (k most : ℕ) → k + 2 < 22 → get_or row k 0 ≡ 0
      → numbers_at k most s after count ≡ number_list (between s (get_or row (k + 1) 0) (get_or row (k + 2) 0))
  list_here k most h none_stored =
      in_text k most s after count (rw (here k (omega arith), none_stored) (unfold is_stored in refl))
      ∙ rw (part_here (k + 1) (k + 2) (omega arith) h)

  -- DP and MIN_DP share a column
  depths_here : ValuesSmall v → (dp_at after count ≡ option_of v.dp) × (min_dp_at after count ≡ option_of v.mindp)
  unfolding depth_at
  depths_here small = (
    ap code_option (ap (half_at 0) (here 6 (omega arith)) ∙ first_half (code_of v.dp) (code_of v.mindp) (code_small v.dp small.dp))
        ∙ code_back v.dp small.dp,
    ap code_option (ap (half_at 1) (here 6 (omega arith)) ∙ second_half (code_of v.dp) (code_of v.mindp) (code_small v.dp small.dp))
        ∙ code_back v.mindp small.mindp,
  )

  pub site_here : ValuesSmall v → site_at s after count ≡ site_from s p a v
  unfolding site_at
  site_here small = rw (
    here 0 (omega arith),
    here 2 (omega arith),
    here 3 (omega arith),
    here 5 (omega arith),
    code_back v.gq small.gq,
    (depths_here small).0,
    (depths_here small).1,
    part_here 7 8 (omega arith) (omega arith),
    part_here 9 10 (omega arith) (omega arith),
    part_here 11 12 (omega arith) (omega arith),
    list_here 13 4 (omega arith) refl,
    list_here 16 10 (omega arith) refl,
  )

  pub sites_more : ValuesSmall v → sites_in s after (count + 1) ≡ sites_in s rows count ++ (site_from s p a v ∷ [])
  unfolding sites_in
  sites_more small = one_more (site_at s after) count
      ∙ rw (map_same (site_at s after) (site_at s rows) 0 count (λ i h. site_before rows row count refl room s i (omega arith)), site_here small)

  names_more : contig_names s after (count + 1) ≡ contig_names s rows count ++ (part_at 7 8 s after count ∷ [])
  unfolding contig_names
  names_more = one_more (part_at 7 8 s after) count
      ∙ rw (map_same (part_at 7 8 s after) (part_at 7 8 s rows) 0 count
      (λ i h. part_before rows row count refl room s 7 8 i (omega arith) (omega arith) (omega arith)))

  module _ (small : ValuesSmall v) (numbered : Numbered s rows count) (first : contig ≡ first_on s rows count (between s p.contig.at p.contig.end))
      (is_Block : block ≡ is_block (site_from s p a v).alleles) where
    contigs_more : ContigsNumbered s after (count + 1)
    contigs_more site h = rw names_more (go (ℕ_discrete site count))
      where
        names : List (List ℕ)
        names = contig_names s rows count ++ (part_at 7 8 s after count ∷ [])

        go : Dec (site ≡ count) → index_where (same_bytes (part_at 7 8 s after site)) (contig_names s rows count ++ (part_at 7 8 s after count ∷ []))
            ≡ some (column 1 after site)
        go (yes q) = rw q (index_last (same_bytes (part_at 7 8 s after count)) (contig_names s rows count) (part_at 7 8 s after count) (same_refl (part_at 7 8 s after count))
            ∙ rw (here 1 (omega arith), part_here 7 8 (omega arith) (omega arith), names_length s rows count, first) (unfold first_on in refl))
        go (no q) =
            let b : site < count = omega arith in
            index_in_front (same_bytes (part_at 7 8 s after site)) (contig_names s rows count) _ (column 1 after site)
            (rw (part_before rows row count refl room s 7 8 site (omega arith) (omega arith) b, column_before rows row count refl room 1 site (omega arith) b)
            (numbered.contigs site b))

    blocks_more : (site : ℕ) → site < count + 1 → eqb (column 4 after site) 1 ≡ is_block (site_at s after site).alleles
    blocks_more site h = go (ℕ_discrete site count)
      where
        flag : (b : Bool) → eqb (cond b 1 0) 1 ≡ b
        flag true = refl
        flag false = refl

        go : Dec (site ≡ count) → eqb (column 4 after site) 1 ≡ is_block (site_at s after site).alleles
        go (yes q) = rw (q, here 4 (omega arith), site_here small, ← is_Block) (flag block)
        go (no q) =
            let b : site < count = omega arith in
            rw (column_before rows row count refl room 4 site (omega arith) b, site_before rows row count refl room s site b) (numbered.blocks site b)

    pub numbered_more : Numbered s after (count + 1)
    numbered_more = record { contigs = contigs_more; blocks = blocks_more }
