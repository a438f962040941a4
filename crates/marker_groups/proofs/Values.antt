-- The values of a marker's lines: numbers in a range, the wanted allele, the names in `after`.
use Prim.Native.Nat.{◌+◌, ◌-◌, ◌<◌, ◌≤◌, suc, ℕ}
use borrow.Author.Tests.{le-leb, leb-false, leb-true, lt-leb}
use lib.Dec.{leb}
use lib.ListN.{drop, drop_of_length-le, get_or, length}
use lib.Seq.{drop-cons}
use mathlib.Core.Bool.{Bool, ◌&&◌, cond, false, not, true}
use mathlib.Core.List.{List, [], ◌∷◌, map}
use mathlib.Core.Option.{Option, bind, none, some}
use mathlib.Core.Path.{◌∙◌, ◌≡◌, ap, refl, sym}
use native.Mathlib.Numerals.{add-one}
use native.Mathlib.Omega.{arith}
use Rattle.definitions.specs.Alleles.{Allele, allele_of, non_ref, same_allele}
use Rattle.definitions.specs.Bytes.{comma, fields_of, same_bytes, text}
use Rattle.definitions.specs.Lines.{lines_of, value_of}
use Rattle.definitions.specs.Lists.{all_of, all_some, is_there, only_if}
use Rattle.definitions.specs.Numbers.{name, number}
use Rattle.definitions.specs.SelectionSheet.{names_after, number_in, wanted_allele}
use Rattle.kv_text.specs.Fields.{allele_read}
use Rattle.kv_text.specs.Lines.{LineReads, line_value, read_to, unread}
use Rattle.kv_text.specs.declared.AlleleKind.TheVariants.{Letters, NonRef, SpanDel}
use Rattle.std.specs.Prelude.{None, Some}
use Rattle.laws.proofs.AllelesAsRead.{allele_as_read_lem, allele_as_read}
use Rattle.laws.proofs.Tests.{after_bind, after_only_if, both, both_of, clash, is_there_lem, not_none, not_there, only_if_there, some_same}
use Rattle.marker_groups.specs.Markers.{after_names}

-- ---- a number in a range

module _ (s : List ℕ) (at : ℕ) (key : List ℕ) (low high : ℕ) where
  pub in_unread : LineReads s at key number unread → LineReads s at key (number_in low high) unread
  unfolding LineReads line_value number_in bind
  in_unread h = go (value_of key (get_or (lines_of (drop at s)) 0 none)) h
    where
      go : (o : Option (List ℕ)) → bind o number ≡ none → bind o (number_in low high) ≡ none
      go none k = refl
      go (some w) k = rw k

  in_value : (n : ℕ) → line_value s at key number ≡ some n → line_value s at key (number_in low high) ≡ only_if (leb low n && leb n high) n
  unfolding line_value number_in bind
  in_value n h = go (value_of key (get_or (lines_of (drop at s)) 0 none)) h
    where
      go : (o : Option (List ℕ)) → bind o number ≡ some n → bind o (number_in low high) ≡ only_if (leb low n && leb n high) n
      go none k = not_none k
      go (some w) k = rw k

  module _ (n e : ℕ) (l : LineReads s at key number (read_to n e)) where
    pub in_range_lem : low ≤ n → n ≤ high → LineReads s at key (number_in low high) (read_to n e)
    unfolding LineReads only_if
    in_range_lem h k = record {
      value = in_value n l.value ∙ rw (le-leb low n h, le-leb n high k);
      ends = l.ends;
      forward = l.forward;
      within = l.within;
      feed = l.feed;
      rest = l.rest;
    }

    pub too_low : n < low → LineReads s at key (number_in low high) unread
    unfolding LineReads only_if
    too_low h = in_value n l.value ∙ rw (lt-leb low n h)

    pub too_high : low ≤ n → high < n → LineReads s at key (number_in low high) unread
    unfolding LineReads only_if
    too_high h k = in_value n l.value ∙ rw (le-leb low n h, lt-leb n high k)

-- ---- the wanted allele

module _ (v : List ℕ) where
  pub wanted_letters : allele_read (Some Letters) v ≡ allele_of 255 v → is_there (wanted_allele v) ≡ true
  unfolding wanted_allele is_there bind only_if same_allele
  wanted_letters e = rw (← e)

  pub wanted_span_del : allele_read (Some SpanDel) v ≡ allele_of 255 v → is_there (wanted_allele v) ≡ true
  unfolding wanted_allele is_there bind only_if same_allele
  wanted_span_del e = rw (← e)

  pub unwanted_non_ref : allele_read (Some NonRef) v ≡ allele_of 255 v → is_there (wanted_allele v) ≡ false
  unfolding wanted_allele is_there bind only_if same_allele
  unwanted_non_ref e = rw (← e)

  pub unwanted_none : allele_read None v ≡ allele_of 255 v → is_there (wanted_allele v) ≡ false
  unfolding wanted_allele is_there bind only_if
  unwanted_none e = rw (← e)

  pub wanted_as_read : is_there (wanted_allele v) ≡ true → wanted_allele v ≡ some (allele_as_read v)
  unfolding wanted_allele is_there
  wanted_as_read h =
      let (a, e) = is_there_lem _ h in
      after_bind (allele_of 255 v) _ e λ b there only. after_only_if _ b only λ t same.
      e ∙ ap {B = Option Allele} some (sym same ∙ some_same (sym there ∙ allele_as_read_lem 255 v (rw there)))

  pub not_wanted : is_there (wanted_allele v) ≡ false → wanted_allele v ≡ none
  not_wanted h = not_there _ h

-- ---- names

all_are : (fs : List (List ℕ)) → all_of (λ f. is_there (name f)) fs ≡ true → all_some (map name fs) ≡ some fs
unfolding all_of all_some name
all_are [] h = refl
all_are (f ∷ fs) h =
    let (first, rest) = both_of _ _ h in
    rw (itself f first, all_are fs rest)
  where
    itself : (f : List ℕ) → is_there (name f) ≡ true → name f ≡ some f
    itself f k = only_if_there _ f k

not_all_are : (fs : List (List ℕ)) → all_of (λ f. is_there (name f)) fs ≡ false → all_some (map name fs) ≡ none
unfolding all_of all_some is_there
not_all_are [] h = clash refl h
not_all_are (f ∷ fs) h = go (name f) h (not_all_are fs)
  where
    go : (o : Option (List ℕ)) → is_there o && all_of (λ f. is_there (name f)) fs ≡ false
        → (all_of (λ f. is_there (name f)) fs ≡ false → all_some (map name fs) ≡ none) → all_some (o ∷ map name fs) ≡ none
    go none k rest = refl
    go (some a) k rest = rw (rest k)

module _ (v : List ℕ) where
  pub after_dot : same_bytes v (text ".") ≡ true → names_after v ≡ some (after_names v)
  unfolding names_after after_names
  after_dot h = rw h

  module _ (some-names : same_bytes v (text ".") ≡ false) where
    pub after_many : 4 < length (fields_of comma v) → names_after v ≡ none
    unfolding names_after bind only_if
    after_many h = rw some-names (go (all_of (λ f. is_there (name f)) (fields_of comma v)) refl)
      where
        go : (b : Bool) → all_of (λ f. is_there (name f)) (fields_of comma v) ≡ b
            → bind (all_some (map name (fields_of comma v))) (λ names. only_if (leb (length names) 4) names) ≡ none
        go true e = rw (all_are (fields_of comma v) e, lt-leb (length (fields_of comma v)) 4 h)
        go false e = rw (not_all_are (fields_of comma v) e)

    pub after_names_lem : length (fields_of comma v) ≤ 4 → all_of (λ f. is_there (name f)) (fields_of comma v) ≡ true → names_after v ≡ some (after_names v)
    unfolding names_after after_names bind only_if
    after_names_lem h e = rw (some-names, all_are (fields_of comma v) e, le-leb (length (fields_of comma v)) 4 h)

    pub after_wrong : all_of (λ f. is_there (name f)) (fields_of comma v) ≡ false → names_after v ≡ none
    unfolding names_after bind
    after_wrong e = rw (some-names, not_all_are (fields_of comma v) e)

-- what reads is up to four names
pub after_as_read : (v : List ℕ) → is_there (names_after v) ≡ true → (names_after v ≡ some (after_names v)) × (length (after_names v) ≤ 4)
unfolding is_there after_names
after_as_read v h = go (same_bytes v (text ".")) refl (all_of (λ f. is_there (name f)) (fields_of comma v)) refl
    (leb (length (fields_of comma v)) 4) refl
  where
    dotted : same_bytes v (text ".") ≡ true → length (after_names v) ≤ 4
    dotted e = rw e (omega arith)

    few : same_bytes v (text ".") ≡ false → length (fields_of comma v) ≤ 4 → length (after_names v) ≤ 4
    few e k = rw e k

    go : (a : Bool) → same_bytes v (text ".") ≡ a → (b : Bool) → all_of (λ f. is_there (name f)) (fields_of comma v) ≡ b
        → (c : Bool) → leb (length (fields_of comma v)) 4 ≡ c → (names_after v ≡ some (after_names v)) × (length (after_names v) ≤ 4)
    go true e b f c g = (after_dot v e, dotted e)
    go false e false f c g = clash h (rw (after_wrong v e f))
    go false e true f true g = let k = leb-true (length (fields_of comma v)) 4 g in (after_names_lem v e k f, few e k)
    go false e true f false g = clash h (rw (after_many v e (leb-false (length (fields_of comma v)) 4 g)))

-- ---- the loop over the names: all pass if those from i on do

module _ {A : Type 0} (p : A → Bool) (l : List A) (i : ℕ) (inv : all_of p l ≡ all_of p (drop i l)) where
  pub all_step : (d : A) → i < length l → p (get_or l i d) ≡ true → all_of p l ≡ all_of p (drop (i + 1) l)
  unfolding all_of
  all_step d h e = inv ∙ rw (drop-cons l i d h, e, add-one i)

  pub all_fails : (d : A) → i < length l → p (get_or l i d) ≡ false → false ≡ all_of p l
  unfolding all_of
  all_fails d h e = sym (inv ∙ rw (drop-cons l i d h, e))

  pub all_end : length l ≤ i → true ≡ all_of p l
  unfolding all_of
  all_end h = sym (inv ∙ rw (drop_of_length-le l h))

-- ---- whether `after` reads

module _ (v : List ℕ) where
  pub there_dot : same_bytes v (text ".") ≡ true → is_there (names_after v) ≡ true
  unfolding is_there
  there_dot e = rw (after_dot v e)

  module _ (some-names : same_bytes v (text ".") ≡ false) where
    pub there_many : 4 < length (fields_of comma v) → is_there (names_after v) ≡ false
    unfolding is_there
    there_many h = rw (after_many v some-names h)

    pub there_names : length (fields_of comma v) ≤ 4 → is_there (names_after v) ≡ all_of (λ f. is_there (name f)) (fields_of comma v)
    unfolding is_there
    there_names h = go (all_of (λ f. is_there (name f)) (fields_of comma v)) refl
      where
        go : (b : Bool) → all_of (λ f. is_there (name f)) (fields_of comma v) ≡ b → is_there (names_after v) ≡ b
        go true e = rw (after_names_lem v some-names h e)
        go false e = rw (after_wrong v some-names e)

-- a line with up to four names
pub line_few : (s : List ℕ) (at : ℕ) (key : List ℕ) (names : List (List ℕ)) (e : ℕ) → LineReads s at key names_after (read_to names e) → length names ≤ 4
unfolding LineReads line_value is_there
line_few s at key names e l =
    after_bind (value_of key (get_or (lines_of (drop at s)) 0 none)) names_after l.value λ w there read.
    let (as_read, few) = after_as_read w (rw read) in
    let same : after_names w ≡ names = some_same (sym as_read ∙ read) in
    rw (← same) few
