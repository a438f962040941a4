-- All ALTs: `*`, if it is shown, and `<NON_REF>` behind the letter ALTs.
use Prim.Native.Nat.{◌+◌, ◌<◌, ◌≤◌, ℕ}
use lib.ListN.{length, length-append, length-map}
use mathlib.Core.Bool.{Bool, false, true}
use mathlib.Core.List.{List, [], ◌++◌, ◌∷◌, append_assoc, flat_map, map, map-append, reverse}
use mathlib.Core.Path.{◌∙◌, ◌≡◌, ap, refl, sym}
use native.Mathlib.Omega.{arith}
use Rattle.definitions.specs.Alleles.{Allele, capital, letters, non_ref, span_del, spelled, written_alleles}
use Rattle.definitions.specs.Bytes.{comma, joined_by, text}
use Rattle.definitions.specs.Lists.{all_of, any_of}
use Rattle.definitions.specs.MergedAlleles.{merged_alts, shows_span_del, span_del_alt}
use Rattle.kv_write.specs.Laid.{Laid}
use Rattle.laws.proofs.Fields.{Free, free_text}
use Rattle.merged_alleles.proofs.Letters.{letters_added}
use Rattle.merged_alleles.proofs.Listing.{added_too, listed_behind, text_behind}
use Rattle.merged_alleles.specs.Alts.{AltsWritten, Listed, add_all, comma_behind, listed, site_letters, sites_at, with_ends}

star_free : Free comma (spelled span_del)
unfolding spelled text comma all_of
star_free = free_text comma (spelled span_del) refl

star_short : length (spelled span_del) ≤ 256
unfolding spelled text
star_short = omega arith

symbol_short : length (spelled non_ref) ≤ 256
unfolding spelled text
symbol_short = omega arith

spelled_letters : (alts : List (List ℕ)) → map spelled (map letters alts) ≡ alts
unfolding spelled
spelled_letters [] = refl
spelled_letters (f ∷ alts) = ap (λ (l : List (List ℕ)). f ∷ l) (spelled_letters alts)

spelled_behind : (alts : List (List ℕ)) (as' : List Allele) → map spelled (map letters alts ++ as') ≡ alts ++ map spelled as'
spelled_behind alts as' = map-append spelled (map letters alts) as' ∙ rw (spelled_letters alts)

length_behind : (alts : List (List ℕ)) (as' : List Allele) → length (map letters alts ++ as') ≡ length alts + length as'
length_behind alts as' = length-append (map letters alts) as' ∙ rw (length-map alts letters)

module _ {d : List ℕ} {len n : ℕ} (h : Listed d len n) where
  pub ended : {d' : List ℕ} {last : ℕ} → Laid d len (comma_behind n ++ spelled non_ref) d' last
      → AltsWritten (with_ends (listed d len n) false) d' last (n + 1)
  unfolding written_alleles span_del_alt
  ended laid = record {
    text = text_behind h (spelled non_ref) laid symbol_short ∙ ap (joined_by comma) (sym (spelled_behind (listed d len n) (non_ref ∷ [])));
    count = omega (arith, length_behind (listed d len n) (non_ref ∷ []), h.count);
    few = omega (arith, h.few);
  }

  pub ended_shown : {d' d'' : List ℕ} {next last : ℕ} → n < 14 → Laid d len (comma_behind n ++ spelled span_del) d' next
      → Laid d' next (comma_behind (n + 1) ++ spelled non_ref) d'' last
      → AltsWritten (with_ends (listed d len n) true) d'' last (n + 2)
  unfolding written_alleles span_del_alt
  ended_shown few laid laid' = record {
    text = text_behind (added_too h (spelled span_del) laid star_short star_free few) (spelled non_ref) laid' symbol_short
        ∙ ap (λ (l : List (List ℕ)). joined_by comma (l ++ (spelled non_ref ∷ []))) (listed_behind h (spelled span_del) laid star_short star_free)
        ∙ ap (joined_by comma) (append_assoc (listed d len n) (spelled span_del ∷ []) (spelled non_ref ∷ [])
        ∙ sym (spelled_behind (listed d len n) (span_del ∷ non_ref ∷ [])));
    count = omega (arith, length_behind (listed d len n) (span_del ∷ non_ref ∷ []), h.count);
    few = omega arith;
  }

  pub one_too_many : 14 ≤ n → 15 < length (with_ends (listed d len n) true)
  unfolding span_del_alt
  one_too_many many = omega (arith, length_behind (listed d len n) (span_del ∷ non_ref ∷ []), h.count)

pub merged_added : (s rows ref : List ℕ) (position : ℕ) (found : List ℕ)
    → merged_alts (map capital ref) position (sites_at s rows found)
    ≡ with_ends (add_all [] (flat_map (site_letters s rows ref position) (reverse found)))
    (any_of (shows_span_del (map capital ref) position) (sites_at s rows found))
unfolding merged_alts
merged_added s rows ref position found = rw (letters_added s rows ref position found)

-- with 15 letter ALTs there are over 15
letters_too_many : (alts : List (List ℕ)) (shown : Bool) → 14 < length alts → 15 < length (with_ends alts shown)
unfolding span_del_alt
letters_too_many alts true many = omega (arith, length_behind alts (span_del ∷ non_ref ∷ []))
letters_too_many alts false many = omega (arith, length_behind alts (non_ref ∷ []))

pub merged_too_many : (s rows ref : List ℕ) (position : ℕ) (found : List ℕ)
    → 14 < length (add_all [] (flat_map (site_letters s rows ref position) (reverse found)))
    → 15 < length (merged_alts (map capital ref) position (sites_at s rows found))
merged_too_many s rows ref position found many =
    rw (merged_added s rows ref position found)
    (letters_too_many (add_all [] (flat_map (site_letters s rows ref position) (reverse found)))
    (any_of (shows_span_del (map capital ref) position) (sites_at s rows found)) many)
