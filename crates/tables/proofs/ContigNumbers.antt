-- The sites of a table on a contig, by their numbers: each once, they are as many as the sites on it (`all_sites`).
use Prim.Native.Nat.{◌<◌, ℕ}
use lib.ListN.{length, length-map}
use mathlib.Core.Bool.{true}
use mathlib.Core.List.Memᴰ
use mathlib.Core.List.{List, map}
use mathlib.Core.Path.{◌∙◌, ◌≡◌, ap, subst, sym}
use native.Mathlib.Omega.{arith}
use Rattle.definitions.specs.Bytes.{same_bytes}
use Rattle.definitions.specs.Cohort.{Site}
use Rattle.definitions.specs.Intervals.{sites_on}
use Rattle.definitions.specs.Lists.{filter_by, numbers_from}
use Rattle.laws.proofs.Every.{Every, every_member, pairwise_filter}
use Rattle.laws.proofs.Members.{◌∈◌, filter_by_map, filter_member, member_filter, member_map, member_numbers, numbers_member}
use Rattle.laws.proofs.NoneTwice.{Once, as_many, numbers_once}
use Rattle.tables.specs.Tables.{SiteRows, site_at}

-- the numbers of the sites on a contig, in any order, each at least once
pub record NumbersOn (s rows : List ℕ) (sites : List Site) (contig numbers : List ℕ) : Type 0 where
  pub only : Every (λ k. (k < length sites) × (same_bytes contig (site_at s rows k).contig ≡ true)) numbers
  pub each : (k : ℕ) → k < length sites → same_bytes contig (site_at s rows k).contig ≡ true → k ∈ numbers

module _ {s rows : List ℕ} {sites : List Site} (h : SiteRows s rows sites) where
  pub site_in : (k : ℕ) → k < length sites → site_at s rows k ∈ sites
  site_in k below =
      let m : site_at s rows k ∈ map (site_at s rows) (numbers_from 0 (length sites)) =
      Memᴰ.map (site_at s rows) (numbers_member 0 (length sites) (omega arith) (omega arith)) in
      subst (λ (l : List Site). site_at s rows k ∈ l) (sym h.read) m

  pub in_rows : {x : Site} → x ∈ sites → (k : ℕ) × (k < length sites) × (x ≡ site_at s rows k)
  in_rows {x} m =
      let (k, n, e) = member_map (site_at s rows) (numbers_from 0 (length sites)) (subst (λ (l : List Site). x ∈ l) h.read m) in
      (k, omega (arith, (member_numbers 0 (length sites) n).1), e)

  module _ {contig numbers : List ℕ} (on : NumbersOn s rows sites contig numbers) where
    -- in file order
    in_file : List ℕ
    in_file = filter_by (λ k. same_bytes contig (site_at s rows k).contig) (numbers_from 0 (length sites))

    file_length : length (sites_on contig sites) ≡ length in_file
    unfolding sites_on in_file
    file_length =
        ap (λ (l : List Site). length (filter_by (λ (z : Site). same_bytes contig z.contig) l)) h.read
        ∙ ap length (filter_by_map (site_at s rows) (λ (z : Site). same_bytes contig z.contig) (numbers_from 0 (length sites)))
        ∙ length-map (filter_by (λ k. same_bytes contig (site_at s rows k).contig) (numbers_from 0 (length sites))) (site_at s rows)

    -- each once, they are as many as the contig's sites
    pub all_sites : Once numbers → length numbers ≡ length (sites_on contig sites)
    unfolding in_file
    all_sites once =
        as_many once (pairwise_filter _ (numbers_once 0 (length sites)))
        (λ k m.
        let (below, same) = every_member m on.only in
        filter_member _ _ (numbers_member 0 (length sites) (omega arith) (omega arith)) same)
        (λ k m.
        let (there, same) = member_filter _ _ m in
        on.each k (omega (arith, (member_numbers 0 (length sites) there).1)) same)
        ∙ sym file_length
