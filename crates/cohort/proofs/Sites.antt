-- The loop over the site groups: the answer for all groups is the answer from here on, behind the sites in the table.
use Prim.Native.Nat.{◌*◌, ◌+◌, ◌-◌, ◌/◌, ◌<◌, ◌≤◌, suc, ℕ}
use borrow.Author.Tests.{le-leb, lt-leb, ltb-true}
use lib.ListN.{drop, length, length-append, length-reverse, take}
use lib.Seq.{sets, take_all}
use mathlib.Core.Bool.{Bool}
use mathlib.Core.List.{List, [], ◌++◌, ◌∷◌, reverse, reverse-append, reverse-reverse}
use mathlib.Core.Path.{◌∙◌, ◌≡◌, ap, refl, sym}
use native.Mathlib.Nat.{zero-add}
use native.Mathlib.Omega.{arith}
use Rattle.std.specs.Prelude as std
use Rattle.answers.specs.Answered as answered
use Rattle.answers.specs.declared.LoadError.TheVariants as load
use Rattle.answers.specs.declared.Refusal.{Refusal}
use Rattle.definitions.specs.Checked.{Checked, accepted, read_each, refused}
use Rattle.definitions.specs.Cohort.{Site, checked_site, site_lines, site_of}
use Rattle.definitions.specs.Lines.{lines_of}
use Rattle.definitions.specs.Lists.{groups_of, numbers_from}
use Rattle.kv_text.proofs.Groups.{continued, continued_end, continued_next, continued_refused, continued_start}
use Rattle.kv_text.specs.Fields.{between}
use Rattle.laws.proofs.Checked.{after_required, after_then}
use Rattle.site_groups.specs.SiteGroups.{SiteTo, site_from, site_group, site_group_of}
use Rattle.site_groups.specs.declared.SiteAlleles.{SiteAlleles}
use Rattle.site_groups.specs.declared.SitePlace.{SitePlace}
use Rattle.site_groups.specs.declared.SiteValues.{SiteValues}
use Rattle.cohort.proofs.FirstGroups.{none_left, some_accepted, some_refused}
use Rattle.cohort.proofs.Rows.{Numbered, numbered_more, numbered_none, numbered_rows, rest_more, sites_count, sites_more}
use Rattle.cohort.specs.Cohort.{SitesAnswered, SitesRead, first_on, first_sites, row_of, sites_answer, sites_from, sites_in}

-- an accepted site had fewer than 4,096 before it
pub few_before : (s : List ℕ) (at samples before : ℕ) {x : Site} → site_group_of s at samples before ≡ accepted x → before < 4096
unfolding site_group_of checked_site
few_before s at samples before e = after_then _ _ e λ t p e. after_required _ _ _ e λ few e. ltb-true before 4096 few

-- so many groups from an offset on, behind the sites of a table
abbrev left : List (List ℕ) → List ℕ → List Site → ℕ → ℕ → Checked (List Site)
left names s before at m = continued (reverse before) (read_each (site_of names) (reverse before) (take m (groups_of site_lines (lines_of (drop at s)))))

-- the groups up to the last are all
all_groups : (names : List (List ℕ)) (s : List ℕ) (at m : ℕ) → length (groups_of site_lines (lines_of (drop at s))) ≤ m
    → sites_from names s at ≡ first_sites m names s at
unfolding sites_from first_sites
all_groups names s at m h = rw (take_all m (groups_of site_lines (lines_of (drop at s))) h)

-- the rows of a table
rows_within : (numbers count : ℕ) → count * 22 ≤ numbers → count ≤ numbers / 22
rows_within numbers count h = omega arith

no_more_rows : (numbers count : ℕ) → numbers < count * 22 + 22 → numbers / 22 ≤ count
no_more_rows numbers count h = omega arith

module _ (samples : ℕ) (s : List ℕ) (at₀ : ℕ) (rows₀ : List ℕ) where
  pub record Reading (rows : List ℕ) (next count : ℕ) : Type 0 where
    pub long : length rows ≡ length rows₀
    pub numbered : Numbered s rows count
    pub few : count ≤ 4096
    pub room : count * 22 ≤ length rows₀
    pub rest : drop (count * 22) rows ≡ drop (count * 22) rows₀
    pub whole : (names : List (List ℕ)) → samples ≡ length names → (m : ℕ)
        → left names s (sites_in s rows count) next m ≡ first_sites (count + m) names s at₀

  pub reading_start : Reading rows₀ at₀ 0
  unfolding sites_in first_sites continued numbers_from
  reading_start = record {
    long = refl;
    numbered = numbered_none s rows₀;
    few = omega arith;
    room = omega arith;
    rest = refl;
    whole = λ names e m. rw (zero-add m) (sym (continued_start _));
  }

  -- a group is read with as many names and sites as the table has
  same_group : (rows : List ℕ) (next count : ℕ) (names : List (List ℕ)) → samples ≡ length names
      → site_of names (reverse (sites_in s rows count)) (site_group s next) ≡ site_group_of s next samples count
  unfolding site_of site_group_of
  same_group rows next count names e = rw (← e, length-reverse (sites_in s rows count), sites_count s rows count)

  module _ (rows : List ℕ) (next count : ℕ) (inv : Reading rows next count) (more : next < length s) where
    first_refused : (row : ℕ) → site_group_of s next samples count ≡ refused row → (names : List (List ℕ)) → samples ≡ length names → (m : ℕ)
        → first_sites (count + suc m) names s at₀ ≡ refused row
    unfolding site_lines
    first_refused row e names n m =
        sym (inv.whole names n (suc m))
        ∙ ap (continued (reverse (sites_in s rows count)))
        (some_refused 11 (omega arith) (site_of names) (reverse (sites_in s rows count)) s next row m more (same_group rows next count names n ∙ e))
        ∙ continued_refused (reverse (sites_in s rows count)) row

    pub site_refused : (r : Refusal) → site_group_of s next samples count ≡ refused (answered.row_of r)
        → SitesRead samples s at₀ rows₀ rows (std.Err (load.Refused r))
    unfolding SitesRead
    site_refused r e names n =
        all_groups names s at₀ (count + suc (length (groups_of site_lines (lines_of (drop at₀ s))))) (omega arith)
        ∙ first_refused (answered.row_of r) e names n (length (groups_of site_lines (lines_of (drop at₀ s))))

    pub refused_answer : (r : Refusal) → site_group_of s next samples count ≡ refused (answered.row_of r)
        → SitesAnswered samples s at₀ (length rows₀) (std.Err (load.Refused r))
    unfolding sites_answer
    refused_answer r e names n =
        let within = rows_within (length rows₀) count inv.room in
        let there : suc (length rows₀ / 22) ≡ count + suc (length rows₀ / 22 - count) = omega arith in
        rw (there, first_refused (answered.row_of r) e names n (length rows₀ / 22 - count))

    pub no_row : {x : Site} → site_group_of s next samples count ≡ accepted x → length rows < count * 22 + 22
        → SitesRead samples s at₀ rows₀ rows (std.Err load.NoRoom)
    unfolding SitesRead
    no_row e short = omega (arith, few_before s next samples count e, inv.long)

    module _ (p : SitePlace) (a : SiteAlleles) (v : SiteValues) (block : Bool) (to : SiteTo s next samples count p a v block) where
      first_accepted : (names : List (List ℕ)) → samples ≡ length names → (m : ℕ)
          → left names s (sites_in s rows count ++ (site_from s p a v ∷ [])) v.next m ≡ first_sites (count + suc m) names s at₀
      unfolding site_lines
      first_accepted names n m =
          rw (reverse-append (sites_in s rows count) (site_from s p a v ∷ []))
          (sym (continued_next (reverse (sites_in s rows count)) (site_from s p a v) _)
          ∙ ap (continued (reverse (sites_in s rows count)))
          (sym (some_accepted 11 (omega arith) (site_of names) (reverse (sites_in s rows count)) s next (site_from s p a v) v.next m more
          to.behind (same_group rows next count names n ∙ to.value)))
          ∙ inv.whole names n (suc m))

      -- a site that reads has no row
      pub no_row_answer : length rows < count * 22 + 22 → SitesAnswered samples s at₀ (length rows₀) (std.Err load.NoRoom)
      unfolding sites_answer read_each
      no_row_answer short names n =
          let within = rows_within (length rows₀) count inv.room in
          let full = no_more_rows (length rows₀) count (omega (arith, inv.long)) in
          let there : suc (length rows₀ / 22) ≡ count + 1 = omega arith in
          let read : first_sites (count + 1) names s at₀ ≡ accepted (sites_in s rows count ++ (site_from s p a v ∷ [])) =
          sym (first_accepted names n 0)
          ∙ continued_end (reverse (sites_in s rows count ++ (site_from s p a v ∷ [])))
          ∙ ap {B = Checked (List Site)} accepted (reverse-reverse (sites_in s rows count ++ (site_from s p a v ∷ []))) in
          let one_more : length (sites_in s rows count ++ (site_from s p a v ∷ [])) ≡ count + 1 = simp length-append (omega (arith, sites_count s rows count)) in
          rw (there, read, lt-leb (length (sites_in s rows count ++ (site_from s p a v ∷ []))) (length rows₀ / 22) (omega arith))

      module _ (contig : ℕ) (first : contig ≡ first_on s rows count (between s p.contig.at p.contig.end))
          (fits : count * 22 + 22 ≤ length rows) where
        pub site_read : (after : List ℕ) → length after ≡ length rows → after ≡ sets rows (count * 22) (row_of p contig a v block)
            → Reading after v.next (count + 1)
        site_read after same e = record {
          long = same ∙ inv.long;
          numbered = rw e (numbered_more s rows count p contig a v block fits to.small inv.numbered first to.is_block_lem);
          few = omega (arith, few_before s next samples count to.value);
          room = omega (arith, inv.long);
          rest = rw e (rest_more rows (row_of p contig a v block) count refl fits rows₀ inv.rest);
          whole = λ names n m.
              let there : count + 1 + m ≡ count + suc m = omega arith in
              rw (e, sites_more s rows count p contig a v block fits to.small, there) (first_accepted names n m);
        }

  module _ (rows : List ℕ) (next count : ℕ) (inv : Reading rows next count) (past : length s ≤ next) where
    all_first : (names : List (List ℕ)) → samples ≡ length names → (m : ℕ) → first_sites (count + m) names s at₀ ≡ accepted (sites_in s rows count)
    unfolding site_lines
    all_first names n m =
        sym (inv.whole names n m)
        ∙ ap (continued (reverse (sites_in s rows count)))
        (none_left 11 (omega arith) (site_of names) (reverse (sites_in s rows count)) s next m past)
        ∙ continued_end (reverse (sites_in s rows count))
        ∙ ap {B = Checked (List Site)} accepted (reverse-reverse (sites_in s rows count))

    pub sites_end : SitesRead samples s at₀ rows₀ rows (std.Ok count)
    unfolding SitesRead
    sites_end = record {
      value = λ names n.
          all_groups names s at₀ (count + length (groups_of site_lines (lines_of (drop at₀ s)))) (omega arith)
          ∙ all_first names n (length (groups_of site_lines (lines_of (drop at₀ s))));
      table = numbered_rows s rows count inv.numbered;
      few = inv.few;
      room = inv.room;
      rest = inv.rest;
    }

    pub sites_answer_lem : SitesAnswered samples s at₀ (length rows₀) (std.Ok count)
    unfolding sites_answer
    sites_answer_lem names n =
        let within = rows_within (length rows₀) count inv.room in
        let there : suc (length rows₀ / 22) ≡ count + (suc (length rows₀ / 22) - count) = omega arith in
        rw (there, all_first names n (suc (length rows₀ / 22) - count), sites_count s rows count, le-leb count (length rows₀ / 22) within)
