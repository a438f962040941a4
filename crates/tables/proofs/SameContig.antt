-- Two sites of a table are on one contig if their columns for the contig agree.
use Prim.Native.Nat.{◌<◌, ℕ}
use borrow.Author.Tests.{eq-eqb, eqb-true}
use lib.Dec.{eqb}
use lib.ListN.{length}
use mathlib.Core.List.{List, map}
use mathlib.Core.Option.{some}
use mathlib.Core.Path.{◌∙◌, ◌≡◌, ap, sym}
use Rattle.definitions.specs.Bytes.{same_bytes}
use Rattle.definitions.specs.Cohort.{Site}
use Rattle.definitions.specs.Lists.{index_where}
use Rattle.laws.proofs.Bytes.{is_same, same_is}
use Rattle.laws.proofs.Members.{index_found}
use Rattle.laws.proofs.Tests.{bool_ext, some_same}
use Rattle.tables.specs.Tables.{SiteRows, column, part_at}

-- one index is that of one name
index_one : (names : List (List ℕ)) (m n : List ℕ) (k : ℕ) → index_where (same_bytes m) names ≡ some k
    → index_where (same_bytes n) names ≡ some k → m ≡ n
index_one names m n k e f =
    let (a, p, x) = index_found (same_bytes m) names e in
    let (b, q, y) = index_found (same_bytes n) names f in
    same_is m a x ∙ some_same (sym p ∙ q) ∙ sym (same_is n b y)

module _ {s rows : List ℕ} {sites : List Site} (t : SiteRows s rows sites) (i j : ℕ) (h : i < length sites) (k : j < length sites) where
  pub same_number : eqb (column 1 rows i) (column 1 rows j) ≡ same_bytes (part_at 7 8 s rows j) (part_at 7 8 s rows i)
  same_number =
      bool_ext _ _
      (λ e. is_same (index_one (map (λ (x : Site). x.contig) sites) _ _ (column 1 rows j) (t.contigs j k)
      (t.contigs i h ∙ ap some (eqb-true _ _ e))))
      (λ e. eq-eqb _ _ (some_same (sym (t.contigs i h) ∙ ap (λ (m : List ℕ). index_where (same_bytes m) (map (λ (x : Site). x.contig) sites)) (sym (same_is _ _ e)) ∙ t.contigs j k)))

-- a site is on the contig of the site that is the contig's first
pub same_contig_lem : {s rows : List ℕ} {sites : List Site} → SiteRows s rows sites → (i first : ℕ) → i < length sites
    → first < length sites → column 1 rows first ≡ first
    → eqb (column 1 rows i) first ≡ same_bytes (part_at 7 8 s rows first) (part_at 7 8 s rows i)
same_contig_lem {rows = rows} t i first h k e = ap (eqb (column 1 rows i)) (sym e) ∙ same_number t i first h k
