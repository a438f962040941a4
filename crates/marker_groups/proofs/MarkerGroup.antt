-- The lines of a marker group, one after the other, and what their answers mean.
use Prim.Native.Nat.{◌+◌, ◌≤◌, ℕ}
use lib.ListN.{length}
use mathlib.Core.List.{List}
use mathlib.Core.Option.{Option, none, some}
use mathlib.Core.Path.{◌≡◌, refl}
use native.Mathlib.Omega.{arith}
use Rattle.definitions.specs.Checked.{Checked, ◌>>=◌, or_refuse, refused, refused_as}
use Rattle.definitions.specs.Lines.{key_of, line_at}
use Rattle.definitions.specs.Numbers.{max_number, name}
use Rattle.definitions.specs.SelectionSheet.{marker_lines, marker_of, names_after, number_in, wanted_allele}
use Rattle.kv_text.proofs.Groups.{behind_next, behind_start, line_read, line_unread}
use Rattle.kv_text.proofs.Lines.{line_within}
use Rattle.kv_text.specs.Fields.{between}
use Rattle.kv_text.specs.Lines.{Behind, LineReads, read_to, unread}
use Rattle.laws.proofs.AllelesAsRead.{allele_as_read}
use Rattle.laws.proofs.Checked.{then_refused}
use Rattle.marker_groups.specs.Markers.{LinesRead, after_names}
use Rattle.kv_text.specs.declared.Part.{Part}
use Rattle.std.specs.Prelude.{None, Some}

-- ---- row 19

-- any line that is refused refuses the group: the lines before it are accepted, or refused with 1 too
skip : {A B : Type 0} (o : Option A) (f : A → Checked B) → ((a : A) → f a ≡ refused 1) → (or_refuse 1 o >>= f) ≡ refused 1
unfolding ◌>>=◌ or_refuse
skip none f h = refl
skip (some a) f h = h a

-- and it does so with 19
pub as_19 : {A B : Type 0} (c : Checked A) (f : A → Checked B) {n : ℕ} → c ≡ refused n → (refused_as 19 c >>= f) ≡ refused 19
unfolding ◌>>=◌ refused_as
as_19 c f e = rw e

-- ---- the six lines

module _ (s : List ℕ) (at : ℕ) where
  pub marker_wrong : LineReads s at (key_of "marker") name unread → LinesRead s at None
  unfolding LinesRead marker_of marker_lines line_at
  marker_wrong l before = as_19 _ _ (then_refused _ _ (line_unread (behind_start s at) "marker" name 6 (omega arith) l))

  module _ (p₀ : Part) (l₀ : LineReads s at (key_of "marker") name (read_to (between s p₀.at p₀.end) p₀.end)) where
    h₁ : Behind s at 1 (p₀.end + 1)
    h₁ = behind_next (behind_start s at) "marker" name _ p₀.end l₀

    pub contig_wrong : LineReads s (p₀.end + 1) (key_of "contig") name unread → LinesRead s at None
    unfolding LinesRead marker_of marker_lines line_at
    contig_wrong l before = as_19 _ _ (skip _ _ λ _. then_refused _ _ (line_unread h₁ "contig" name 6 (omega arith) l))

    module _ (p₁ : Part) (l₁ : LineReads s (p₀.end + 1) (key_of "contig") name (read_to (between s p₁.at p₁.end) p₁.end)) where
      h₂ : Behind s at 2 (p₁.end + 1)
      h₂ = behind_next h₁ "contig" name _ p₁.end l₁

      pub pos_wrong : LineReads s (p₁.end + 1) (key_of "pos") (number_in 1 max_number) unread → LinesRead s at None
      unfolding LinesRead marker_of marker_lines line_at
      pos_wrong l before = as_19 _ _ (skip _ _ λ _. skip _ _ λ _. then_refused _ _ (line_unread h₂ "pos" (number_in 1 max_number) 6 (omega arith) l))

      module _ (pos e₂ : ℕ) (l₂ : LineReads s (p₁.end + 1) (key_of "pos") (number_in 1 max_number) (read_to pos e₂)) where
        h₃ : Behind s at 3 (e₂ + 1)
        h₃ = behind_next h₂ "pos" (number_in 1 max_number) _ e₂ l₂

        pub allele_wrong : LineReads s (e₂ + 1) (key_of "allele") wanted_allele unread → LinesRead s at None
        unfolding LinesRead marker_of marker_lines line_at
        allele_wrong l before = as_19 _ _ (skip _ _ λ _. skip _ _ λ _. skip _ _ λ _. then_refused _ _ (line_unread h₃ "allele" wanted_allele 6 (omega arith) l))

        module _ (p₃ : Part) (l₃ : LineReads s (e₂ + 1) (key_of "allele") wanted_allele (read_to (allele_as_read (between s p₃.at p₃.end)) p₃.end)) where
          h₄ : Behind s at 4 (p₃.end + 1)
          h₄ = behind_next h₃ "allele" wanted_allele _ p₃.end l₃

          pub weight_wrong : LineReads s (p₃.end + 1) (key_of "weight") (number_in 1 100) unread → LinesRead s at None
          unfolding LinesRead marker_of marker_lines line_at
          weight_wrong l before = as_19 _ _ (skip _ _ λ _. skip _ _ λ _. skip _ _ λ _. skip _ _ λ _. then_refused _ _ (line_unread h₄ "weight" (number_in 1 100) 6 (omega arith) l))

          module _ (weight e₄ : ℕ) (l₄ : LineReads s (p₃.end + 1) (key_of "weight") (number_in 1 100) (read_to weight e₄)) where
            h₅ : Behind s at 5 (e₄ + 1)
            h₅ = behind_next h₄ "weight" (number_in 1 100) _ e₄ l₄

            pub after_wrong : LineReads s (e₄ + 1) (key_of "after") names_after unread → LinesRead s at None
            unfolding LinesRead marker_of marker_lines line_at
            after_wrong l before = as_19 _ _ (skip _ _ λ _. skip _ _ λ _. skip _ _ λ _. skip _ _ λ _. skip _ _ λ _. then_refused _ _ (line_unread h₅ "after" names_after 6 (omega arith) l))

            module _ (p₅ : Part) (l₅ : LineReads s (e₄ + 1) (key_of "after") names_after (read_to (after_names (between s p₅.at p₅.end)) p₅.end)) where
              pub lines_read : length (after_names (between s p₅.at p₅.end)) ≤ 4 → LinesRead s at (Some (record {
                name = p₀;
                contig = p₁;
                pos = pos;
                allele = p₃;
                weight = weight;
                after = p₅;
                next = p₅.end + 1;
              }))
              unfolding LinesRead marker_lines LineReads
              lines_read few = record {
                marker = line_read (behind_start s at) "marker" name 6 (omega arith) _ p₀.end l₀;
                contig = line_read h₁ "contig" name 6 (omega arith) _ p₁.end l₁;
                pos = line_read h₂ "pos" (number_in 1 max_number) 6 (omega arith) _ e₂ l₂;
                allele = line_read h₃ "allele" wanted_allele 6 (omega arith) _ p₃.end l₃;
                weight = line_read h₄ "weight" (number_in 1 100) 6 (omega arith) _ e₄ l₄;
                after = line_read h₅ "after" names_after 6 (omega arith) _ p₅.end l₅;
                few = few;
                behind = behind_next h₅ "after" names_after _ p₅.end l₅;
                forward = omega (arith, h₅.forward, l₅.forward);
                within = let h = line_within s (e₄ + 1) (key_of "after") names_after _ p₅.end l₅ in omega arith;
              }
