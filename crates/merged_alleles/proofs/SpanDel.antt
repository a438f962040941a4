-- When a site of a table shows `*`.
use Prim.Native.Nat.{◌+◌, ◌<◌, ◌≤◌, ℕ}
use lib.Dec.{eqb}
use lib.ListN.{drop, drop_of_length-le, get_or, length}
use lib.Seq.{drop-cons}
use mathlib.Core.Bool.{Bool, ◌&&◌, ◌||◌, cond, false, not, true}
use mathlib.Core.List.{List, [], ◌∷◌, map}
use mathlib.Core.Option.{none, some}
use mathlib.Core.Path.{◌∙◌, ◌≡◌, ap, refl, sym}
use native.Mathlib.Numerals.{add-one}
use Rattle.definitions.specs.Alleles.{RefAlts, capital, is_block, letters, non_ref, same_allele, span_del, spelled}
use Rattle.definitions.specs.Bytes.{comma, fields_of, same_bytes}
use Rattle.definitions.specs.Lists.{any_of}
use Rattle.definitions.specs.MergedAlleles.{extended_allele, is_allele, remapped_alleles, shows_span_del, spanning_reading}
use Rattle.definitions.specs.MergedRef.{site_ref, starts_at}
use Rattle.laws.proofs.Alleles.{block_is}
use Rattle.laws.proofs.AllelesAsRead.{allele_as_read, ref_alts_as_read}
use Rattle.laws.proofs.Bytes.{same_flip}
use Rattle.tables.specs.Tables.{column, part_at, site_at}
use Rattle.merged_alleles.proofs.Adding.{or_false, or_true}
use Rattle.merged_alleles.specs.Alts.{sites_at}

-- a site that starts there
starting : (ref own : List ℕ) (fs : List (List ℕ))
    → any_of (is_allele span_del) (map (λ a. some (extended_allele ref own a)) (map allele_as_read fs)) ≡ any_of (same_bytes (spelled span_del)) fs
unfolding any_of is_allele extended_allele allele_as_read same_allele
starting ref own [] = refl
starting ref own (f ∷ fs) = go (same_bytes f (spelled span_del)) (same_flip f (spelled span_del)) (same_bytes f (spelled non_ref)) (starting ref own fs)
  where
    rest : Bool
    rest = any_of (is_allele span_del) (map (λ a. some (extended_allele ref own a)) (map allele_as_read fs))

    go : (a : Bool) → a ≡ same_bytes (spelled span_del) f → (b : Bool) → rest ≡ any_of (same_bytes (spelled span_del)) fs
        → (is_allele span_del (some (extended_allele ref own (cond a span_del (cond b non_ref (letters (map capital f)))))) || rest)
        ≡ (same_bytes (spelled span_del) f || any_of (same_bytes (spelled span_del)) fs)
    go true e b r = rw (← e)
    go false e true r = rw (← e) r
    go false e false r = rw (← e) r

-- a spanning site: a block reads no ALT as `*`
spanning : (own : List ℕ) (r : RefAlts)
    → (any_of (is_allele span_del) (none ∷ map (spanning_reading own) r.alts) || (true && not (is_block r))) ≡ not (is_block r)
unfolding any_of is_allele spanning_reading same_allele
spanning own r = go (is_block r) refl
  where
    go : (b : Bool) → is_block r ≡ b
        → (any_of (is_allele span_del) (none ∷ map (spanning_reading own) r.alts) || (true && not b)) ≡ not b
    go true e = rw (block_is r e).0
    go false e = or_true (any_of (is_allele span_del) (none ∷ map (spanning_reading own) r.alts))

module _ (s rows : List ℕ) (position site : ℕ) (ref : List ℕ) where
  pub shows_starting : eqb (column 2 rows site) position ≡ true
      → any_of (same_bytes (spelled span_del)) (fields_of comma (part_at 11 12 s rows site)) ≡ shows_span_del ref position (site_at s rows site)
  unfolding shows_span_del remapped_alleles site_ref starts_at site_at ref_alts_as_read any_of is_allele extended_allele same_allele
  shows_starting e = rw e (sym (or_false _ ∙ starting ref (map capital (part_at 9 10 s rows site)) (fields_of comma (part_at 11 12 s rows site))))

  pub shows_spanning : eqb (column 2 rows site) position ≡ false
      → not (is_block (site_at s rows site).alleles) ≡ shows_span_del ref position (site_at s rows site)
  unfolding shows_span_del remapped_alleles site_ref starts_at site_at
  shows_spanning e = rw e (sym (spanning _ (site_at s rows site).alleles))

-- ---- the sites from one on

-- whatever REF is, the answer for those from i on is that for all
abbrev pub ShownFrom : List ℕ → List ℕ → ℕ → List ℕ → ℕ → Type 0
ShownFrom s rows position found i =
    (ref : List ℕ) → any_of (shows_span_del ref position) (sites_at s rows (drop i found)) ≡ any_of (shows_span_del ref position) (sites_at s rows found)

module _ (s rows : List ℕ) (position : ℕ) (found : List ℕ) (i : ℕ) (left : ShownFrom s rows position found i) where
  module _ (below : i < length found) {b : Bool} (shown : (ref : List ℕ) → b ≡ shows_span_del ref position (site_at s rows (get_or found i 0))) where
    from_here : (ref : List ℕ) → (b || any_of (shows_span_del ref position) (sites_at s rows (drop (i + 1) found)))
        ≡ any_of (shows_span_del ref position) (sites_at s rows found)
    unfolding any_of
    from_here ref =
        rw (shown ref, add-one i)
        (ap (λ (l : List ℕ). any_of (shows_span_del ref position) (sites_at s rows l)) (sym (drop-cons found i 0 below)) ∙ left ref)

    pub shown_here : b ≡ true → (ref : List ℕ) → true ≡ any_of (shows_span_del ref position) (sites_at s rows found)
    shown_here e ref = rw e at (from_here ref)

    pub shown_later : b ≡ false → ShownFrom s rows position found (i + 1)
    shown_later e ref = rw e at (from_here ref)

  pub none_shown : length found ≤ i → (ref : List ℕ) → false ≡ any_of (shows_span_del ref position) (sites_at s rows found)
  unfolding any_of
  none_shown past ref =
      ap (λ (l : List ℕ). any_of (shows_span_del ref position) (sites_at s rows l)) (sym (drop_of_length-le found past)) ∙ left ref
