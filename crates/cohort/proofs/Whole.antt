-- The header, then the sites: the cohort, or the row that refuses it.
use Prim.Native.Nat.{◌*◌, ◌<◌, ◌≤◌, suc, ℕ}
use borrow.Author.Tests.{le-leb, lt-leb}
use lib.Dec.{leb}
use lib.ListN.{drop, length, length-map, take}
use mathlib.Core.Bool.{Bool, cond, false, true}
use mathlib.Core.List.{List, []}
use mathlib.Core.Path.{◌∙◌, ◌≡◌, refl, sym}
use Rattle.std.specs.Prelude as std
use Rattle.answers.specs.Answered as answered
use Rattle.answers.specs.declared.LoadError.{LoadError}
use Rattle.answers.specs.declared.LoadError.TheVariants as load
use Rattle.definitions.specs.Checked.{Checked, accepted, read_each, refused}
use Rattle.definitions.specs.Cohort.{Site, cohort_of, samples_of, site_lines, site_of}
use Rattle.definitions.specs.CombinedList.{fits}
use Rattle.definitions.specs.Lines.{lines_of}
use Rattle.definitions.specs.Lists.{groups_of, numbers_from}
use Rattle.kv_text.specs.Lines.{Behind}
use Rattle.laws.proofs.Checked.{not_required, required, then, then_refused}
use Rattle.laws.proofs.Members.{length_numbers}
use Rattle.sample_names.specs.Header.{Header}
use Rattle.definitions.specs.Limits.{max_samples}
use native.Mathlib.Omega.{arith}
use Rattle.tables.specs.Tables.{name_at, names_in}
use Rattle.cohort.specs.Cohort.{CohortFitting, Loaded, SitesAnswered, SitesRead, cohort_front, faulty, first_sites, fitting_cohort, front_answer, loaded, loaded_of, no_room, rows_in, sites_answer, sites_from}
use Rattle.cohort.specs.declared.CohortSize.{CohortSize}

pub names_count : (s names : List ℕ) (count : ℕ) → count ≡ length (names_in s names count)
unfolding names_in
names_count s names count = sym (length-map (numbers_from 0 count) (name_at s names) ∙ length_numbers 0 count)

-- the answer for the sites, with the number of samples
abbrev with_samples : ℕ → Loaded ℕ → Loaded CohortSize
with_samples samples (loaded count) = loaded (record { samples = samples; sites = count })
with_samples samples (faulty row) = faulty row
with_samples samples no_room = no_room

module _ (s : List ℕ) where
  pub too_long_answer : (room groups : ℕ) → 16777216 < length s → faulty 2 ≡ front_answer room (cohort_front groups s)
  unfolding cohort_front front_answer fits
  too_long_answer room groups h = rw (not_required 2 _ _ (lt-leb (length s) 16777216 h))

  pub too_long_lem : 16777216 < length s → fitting_cohort s ≡ refused 2
  unfolding fitting_cohort fits
  too_long_lem h = not_required _ _ _ (lt-leb (length s) 16777216 h)

  module _ (short : length s ≤ 16777216) where
    fitting : fits s ≡ true
    unfolding fits
    fitting = le-leb (length s) 16777216 short

    pub header_refused : (row : ℕ) → samples_of (lines_of s) ≡ refused row → fitting_cohort s ≡ refused row
    unfolding fitting_cohort cohort_of
    header_refused row h = required _ _ _ fitting (then_refused _ _ h)

    pub header_answer : (room groups row : ℕ) → samples_of (lines_of s) ≡ refused row → faulty row ≡ front_answer room (cohort_front groups s)
    unfolding cohort_front front_answer
    header_answer room groups row h = rw (required 2 _ _ fitting (then_refused _ _ h))

    module _ (names : List ℕ) (samples next : ℕ) (header : samples_of (lines_of s) ≡ accepted (names_in s names samples))
        (behind : Behind s 0 (suc samples) next) where
      -- the site groups behind the header are those from `next` on
      same_groups : read_each (site_of (names_in s names samples)) [] (groups_of site_lines (drop (suc (length (names_in s names samples))) (lines_of s)))
          ≡ sites_from (names_in s names samples) s next
      unfolding sites_from
      same_groups = rw (← names_count s names samples, behind.lines)

      pub sites_refused : (row : ℕ) → sites_from (names_in s names samples) s next ≡ refused row → fitting_cohort s ≡ refused row
      unfolding fitting_cohort cohort_of
      sites_refused row h = required _ _ _ fitting (then _ _ header (then_refused _ _ (same_groups ∙ h)))

      pub all_read : (sites : List Site) → sites_from (names_in s names samples) s next ≡ accepted sites
          → fitting_cohort s ≡ accepted (record { names = names_in s names samples; sites = sites })
      unfolding fitting_cohort cohort_of
      all_read sites h = required _ _ _ fitting (then _ _ header (then _ _ (same_groups ∙ h) refl))

      -- the front of the cohort, by the first groups from `next` on
      first_groups : (groups : ℕ) → read_each (site_of (names_in s names samples)) []
          (take groups (groups_of site_lines (drop (suc (length (names_in s names samples))) (lines_of s))))
          ≡ first_sites groups (names_in s names samples) s next
      unfolding first_sites
      first_groups groups = rw (← names_count s names samples, behind.lines)

      pub sites_said : (room groups : ℕ) {r : Loaded ℕ} → r ≡ sites_answer room (first_sites groups (names_in s names samples) s next)
          → with_samples samples r ≡ front_answer room (cohort_front groups s)
      unfolding cohort_front front_answer sites_answer
      sites_said room groups e = rw e (go (first_sites groups (names_in s names samples) s next) refl)
        where
          pick : (b : Bool) (n k : ℕ) → samples ≡ n
              → with_samples samples (cond b (loaded k) no_room) ≡ cond b (loaded (record { samples = n; sites = k })) no_room
          pick true n k e = rw e
          pick false n k e = refl

          go : (c : Checked (List Site)) → first_sites groups (names_in s names samples) s next ≡ c
              → with_samples samples (sites_answer room c) ≡ front_answer room (cohort_front groups s)
          go (refused row) e = rw (required 2 _ _ fitting (then _ _ header (then_refused _ _ (first_groups groups ∙ e))))
          go (accepted l) e =
              rw (required 2 _ _ fitting (then _ _ header (then _ _ (first_groups groups ∙ e) refl)))
              (pick (leb (length l) room) (length (names_in s names samples)) (length l) (names_count s names samples))

      -- no sites: a group that is refused, or no room
      pub sites_fail : (names₀ rows₀ rows : List ℕ) (e : LoadError)
          → SitesAnswered samples s next (length rows₀) (std.Err e) → SitesRead samples s next rows₀ rows (std.Err e)
          → (loaded_of {A = CohortSize} (std.Err e) ≡ front_answer (rows_in (length rows₀)) (cohort_front (suc (rows_in (length rows₀))) s))
          × CohortFitting s names₀ names rows₀ rows (std.Err e)
      unfolding CohortFitting SitesRead
      sites_fail names₀ rows₀ rows (load.Refused r) answer table =
          let n = names_count s names samples in
          (sites_said _ _ (answer _ n), sites_refused (answered.row_of r) (table _ n))
      sites_fail names₀ rows₀ rows load.NoRoom answer table = (sites_said _ _ (answer _ (names_count s names samples)), table)

    -- no header, where there is room for the names
    pub header_fail : (names₀ names rows₀ rows : List ℕ) (e : LoadError) → 2 * max_samples ≤ length names₀ → Header s names₀ names (std.Err e)
        → (loaded_of {A = CohortSize} (std.Err e) ≡ front_answer (rows_in (length rows₀)) (cohort_front (suc (rows_in (length rows₀))) s))
        × CohortFitting s names₀ names rows₀ rows (std.Err e)
    unfolding CohortFitting Header
    header_fail names₀ names rows₀ rows (load.Refused r) room h = (header_answer _ _ _ h.value, header_refused _ h.value)
    header_fail names₀ names rows₀ rows load.NoRoom room h = absurd (omega (arith, h.no_room))
