-- The REFs of the sites that start at a position, one site more at a time.
use Prim.Native.Nat.{◌<◌, ◌≤◌, ℕ}
use borrow.Author.Tests.{eq-eqb, le-ltb, lt-ltb, ltb-false, ltb-true, ne_eqb}
use lib.Dec.{ltb}
use lib.ListN.{length, length-map}
use mathlib.Core.Bool.{Bool, ◌&&◌, cond, false, true}
use mathlib.Core.List.{List, [], ◌∷◌, map}
use mathlib.Core.Path.{◌∙◌, ◌≡◌, ap, refl, sym}
use native.Mathlib.Omega.{arith}
use Rattle.definitions.specs.Alleles.{capital}
use Rattle.definitions.specs.Cohort.{Site}
use Rattle.definitions.specs.Lists.{all_of, any_of, filter_by}
use Rattle.definitions.specs.MergedRef.{longest, site_ref, starts_at}
use Rattle.laws.proofs.AllelesAsRead.{ref_alts_as_read}
use Rattle.laws.proofs.Members.{filter_no, filter_yes}
use Rattle.laws.proofs.Tests.{or_neither}
use Rattle.tables.specs.Tables.{column, part_at, site_at}
use Rattle.merged_ref.specs.Answers.{longer_of, longer_site, longest_site, sites_at, starting_refs}
use Rattle.std.specs.Prelude as std

module _ (position : ℕ) (x : Site) (l : List Site) where
  starts : starts_at position x ≡ true → starting_refs position (x ∷ l) ≡ site_ref x ∷ starting_refs position l
  unfolding starting_refs
  starts h = rw (filter_yes (starts_at position) x l h)

  elsewhere : starts_at position x ≡ false → starting_refs position (x ∷ l) ≡ starting_refs position l
  unfolding starting_refs
  elsewhere h = rw (filter_no (starts_at position) x l h)

none_starts : (position : ℕ) (l : List Site) → any_of (starts_at position) l ≡ false → starting_refs position l ≡ []
unfolding starting_refs filter_by any_of
none_starts position [] h = refl
none_starts position (x ∷ l) h =
    let (here, later) = or_neither (starts_at position x) (any_of (starts_at position) l) h in
    elsewhere position x l here ∙ none_starts position l later

-- ---- a test of every REF, site by site

and_true : (b : Bool) → b && true ≡ b
and_true true = refl
and_true false = refl

pub tested : (f : List ℕ → Bool) (position : ℕ) (x : Site) (l : List Site)
    → all_of f (starting_refs position (x ∷ l)) ≡ all_of f (starting_refs position (x ∷ [])) && all_of f (starting_refs position l)
unfolding starting_refs filter_by all_of
tested f position x l = go (starts_at position x)
  where
    others : List Site
    others = filter_by (starts_at position) l

    go : (b : Bool) → all_of f (map site_ref (cond b (x ∷ others) others))
        ≡ all_of f (map site_ref (cond b (x ∷ []) [])) && all_of f (map site_ref others)
    go true = rw (and_true (f (site_ref x)))
    go false = refl

module _ (f : List ℕ → Bool) (position : ℕ) (x : Site) where
  pub tested_elsewhere : starts_at position x ≡ false → true ≡ all_of f (starting_refs position (x ∷ []))
  unfolding starting_refs filter_by all_of
  tested_elsewhere h = rw h

  pub tested_there : starts_at position x ≡ true → f (site_ref x) ≡ all_of f (starting_refs position (x ∷ []))
  unfolding starting_refs filter_by all_of
  tested_there h = rw (h, and_true (f (site_ref x)))

-- ---- whether a row's site starts there

module _ (s rows : List ℕ) (position site : ℕ) where
  pub start_there : column 2 rows site ≡ position → starts_at position (site_at s rows site) ≡ true
  unfolding starts_at site_at
  start_there h = eq-eqb (column 2 rows site) position h

  pub start_elsewhere : (column 2 rows site ≡ position → ⊥) → starts_at position (site_at s rows site) ≡ false
  unfolding starts_at site_at
  start_elsewhere h = ne_eqb (column 2 rows site) position h

-- ---- the longest, from the last site on

-- which of these sites has the longest REF of those that start at the position
unfoldable pub LongestFound : List ℕ → List ℕ → ℕ → List ℕ → std.Option ℕ → Type 0
LongestFound s rows position found (std.Some site) =
    (any_of (starts_at position) (sites_at s rows found) ≡ true)
    × (map capital (part_at 9 10 s rows site) ≡ longest (starting_refs position (sites_at s rows found)))
LongestFound s rows position found std.None = any_of (starts_at position) (sites_at s rows found) ≡ false

alone : (r : List ℕ) → r ≡ longest (r ∷ [])
unfolding longest
alone [] = refl
alone (b ∷ r) = let h : 0 < length (b ∷ r) = omega arith in rw (lt-ltb 0 (length (b ∷ r)) h)

module _ (s rows : List ℕ) (position site : ℕ) (found : List ℕ) where
  as_many : (i : ℕ) → length (map capital (part_at 9 10 s rows i)) ≡ length (part_at 9 10 s rows i)
  as_many i = length-map (part_at 9 10 s rows i) capital

  -- the site starts elsewhere
  passed : (best : std.Option ℕ) → starts_at position (site_at s rows site) ≡ false → LongestFound s rows position found best
      → LongestFound s rows position (site ∷ found) best
  unfolding LongestFound any_of
  passed std.None h f = rw h f
  passed (std.Some other) h f = (rw h f.0, f.1 ∙ ap longest (sym (elsewhere position _ _ h)))

  module _ (h : starts_at position (site_at s rows site) ≡ true) where
    -- no later one starts there
    only : LongestFound s rows position found std.None → LongestFound s rows position (site ∷ found) (std.Some site)
    unfolding LongestFound any_of site_ref site_at ref_alts_as_read
    only f = (rw h refl, rw (starts position _ (sites_at s rows found) h, none_starts position _ f) (alone _))

    module _ (other : ℕ) (f : LongestFound s rows position found (std.Some other)) where
      -- its REF is longer than the longest of the later ones, or it is not
      longer : length (part_at 9 10 s rows other) < length (part_at 9 10 s rows site) → LongestFound s rows position (site ∷ found) (std.Some site)
      unfolding LongestFound any_of site_ref site_at ref_alts_as_read longest
      longer k = (rw h refl, rw (starts position _ (sites_at s rows found) h, ← f.1, as_many other, as_many site, lt-ltb _ _ k))

      not_longer : length (part_at 9 10 s rows site) ≤ length (part_at 9 10 s rows other) → LongestFound s rows position (site ∷ found) (std.Some other)
      unfolding LongestFound any_of site_ref site_at ref_alts_as_read longest
      not_longer k = (rw h refl, rw (starts position _ (sites_at s rows found) h, ← f.1, as_many other, as_many site, le-ltb _ _ k))

-- longest_site finds it
module _ (s rows : List ℕ) (position : ℕ) where
  with_site : (site : ℕ) (found : List ℕ) (best : std.Option ℕ) → LongestFound s rows position found best
      → LongestFound s rows position (site ∷ found) (longer_site s rows position site best)
  unfolding longer_site longer_of
  with_site site found best f = go (starts_at position (site_at s rows site)) refl best f
    where
      lengths : ℕ → Bool
      lengths other = ltb (length (part_at 9 10 s rows other)) (length (part_at 9 10 s rows site))

      pick : (h : starts_at position (site_at s rows site) ≡ true) (other : ℕ) → LongestFound s rows position found (std.Some other)
          → (v : Bool) → lengths other ≡ v
          → LongestFound s rows position (site ∷ found) (cond v (std.Some site) (std.Some other))
      pick h other f true e = longer s rows position site found h other f (ltb-true _ _ e)
      pick h other f false e = not_longer s rows position site found h other f (ltb-false _ _ e)

      go : (b : Bool) → starts_at position (site_at s rows site) ≡ b → (best : std.Option ℕ) → LongestFound s rows position found best
          → LongestFound s rows position (site ∷ found) (cond b (longer_of s rows site best) best)
      go false h best f = passed s rows position site found best h f
      go true h std.None f = only s rows position site found h f
      go true h (std.Some other) f = pick h other f (lengths other) refl

  longest_found : (found : List ℕ) → LongestFound s rows position found (longest_site s rows position found)
  unfolding longest_site LongestFound any_of
  longest_found [] = refl
  longest_found (site ∷ found) = with_site site found (longest_site s rows position found) (longest_found found)

  pub longest_is : (found : List ℕ) (r : std.Option ℕ) → r ≡ longest_site s rows position found → LongestFound s rows position found r
  longest_is found r e = rw e (longest_found found)

  -- one site, as longer_ref finds it
  pub site_passed : (site : ℕ) (best : std.Option ℕ) → starts_at position (site_at s rows site) ≡ false → best ≡ longer_site s rows position site best
  unfolding longer_site
  site_passed site best h = rw h

  module _ (site : ℕ) (h : starts_at position (site_at s rows site) ≡ true) where
    pub site_only : std.Some site ≡ longer_site s rows position site std.None
    unfolding longer_site longer_of
    site_only = rw h

    module _ (other : ℕ) where
      pub site_longer : length (part_at 9 10 s rows other) < length (part_at 9 10 s rows site)
          → std.Some site ≡ longer_site s rows position site (std.Some other)
      unfolding longer_site longer_of
      site_longer k = rw (h, lt-ltb _ _ k)

      pub site_not_longer : length (part_at 9 10 s rows site) ≤ length (part_at 9 10 s rows other)
          → std.Some other ≡ longer_site s rows position site (std.Some other)
      unfolding longer_site longer_of
      site_not_longer k = rw (h, le-ltb _ _ k)
