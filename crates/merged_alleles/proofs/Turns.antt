-- What the functions that lay letter ALTs do to the list: one candidate, the fields of a site, the sites.
use Prim.Native.Nat.{◌+◌, ◌-◌, ◌<◌, ◌≤◌, suc, ℕ}
use denote.Ref.{Bor}
use lib.Dec.{eqb}
use lib.ListN.{drop, get_or, length, length-append, length-drop, length-map, length-take, take}
use lib.Seq.{drop_at, drop-cons, take_all, take-take}
use mathlib.Core.Bool.{Bool, cond, false, true}
use mathlib.Core.List.{List, [], ◌++◌, ◌∷◌, append_assoc, append-nil, flat_map, foldl-append, map, map-append}
use mathlib.Core.Path.{◌∙◌, ◌≡◌, ap, refl, subst, sym}
use native.Mathlib.Decide.{dec_lt}
use native.Mathlib.Nat.{min-eq_left}
use native.Mathlib.Omega.{arith}
use Rattle.std.proofs.lemmas.List.{take-append-drop}
use Rattle.definitions.specs.Alleles.{capital, non_ref, span_del, spelled}
use Rattle.definitions.specs.Bytes.{comma, fields_of, same_bytes}
use Rattle.definitions.specs.Limits.{max_site_letters}
use Rattle.definitions.specs.Lists.{any_of}
use Rattle.kv_text.proofs.Fields.{field_first, field_has_none, field_last}
use Rattle.kv_text.specs.Fields.{between, field_length}
use Rattle.kv_write.proofs.Laying.{laid_append, laid_length}
use Rattle.kv_write.specs.Laid.{Laid}
use Rattle.laws.proofs.Capitals.{comma_no_letter, free_capitals}
use Rattle.laws.proofs.Every.{Every, every_append, every_drop, every_uncons}
use Rattle.laws.proofs.Fields.{Free}
use Rattle.laws.proofs.Members.{flat_map_append}
use Rattle.tables.specs.Tables.{column, part_at}
use Rattle.merged_alleles.proofs.Adding.{add_fresh, add_old, none_removed}
use Rattle.merged_alleles.proofs.Listing.{added_too, inside, laid_behind, listed_before, listed_behind, listed_same, not_added}
use Rattle.merged_alleles.specs.Alts.{Listed, add_all, add_new, comma_behind, extended_letters, listed, site_letters}
use Rattle.merged_alleles.specs.SoundSites.{ShortField}

-- these ALTs were added behind others, and the list is so long
abbrev pub AddedTo : List (List ℕ) → List (List ℕ) → List ℕ → ℕ → ℕ → Type 0
AddedTo alts fs d len n = Listed d len n × (listed d len n ≡ add_all alts fs)

-- ---- a candidate

-- raised, a field is as short and has no comma either
pub short_capitals : {f : List ℕ} → ShortField f → ShortField (map capital f)
short_capitals {f} h = record {
  short = rw (length-map f capital) h.short;
  free = free_capitals comma comma_no_letter.0 comma_no_letter.1 h.free;
}

module _ {d d₁ d₂ d₃ : List ℕ} {len n from middle next : ℕ} (h : Listed d len n) (field end : List ℕ)
    (f : ShortField field) (e : ShortField end)
    (l₁ : Laid d len (comma_behind n) d₁ from) (l₂ : Laid d₁ from field d₂ middle) (l₃ : Laid d₂ middle end d₃ next) where
  abbrev alt : List ℕ
  alt = field ++ end

  all_laid : Laid d len (comma_behind n ++ alt) d₃ next
  all_laid = rw (append_assoc (comma_behind n) field end) at (laid_append (laid_append l₁ l₂) l₃)

  alt_short : length alt ≤ 256
  alt_short = omega (arith, length-append field end, f.short, e.short)

  alt_free : Free comma alt
  alt_free = every_append f.free e.free

  -- where it stands
  pub next_within : next ≤ length d₃
  next_within = omega (arith, all_laid.next, inside h alt all_laid alt_short, h.room, laid_length all_laid)

  pub list_before : len ≤ next
  list_before = omega (arith, all_laid.next)

  pub from_before : from ≤ next
  from_before = omega (arith, l₁.next, l₂.next, l₃.next)

  pub next_length : next ≡ length (take next d₃)
  next_length = sym (length-take next d₃ ∙ min-eq_left next_within)

  fits : len + length (comma_behind n ++ alt) ≤ length d
  fits = omega (arith, inside h alt all_laid alt_short, h.room)

  text_length_lem : length (take len d ++ comma_behind n) ≡ from
  text_length_lem = length-append (take len d) (comma_behind n) ∙ omega (arith, length-take len d ∙ min-eq_left (let z : len ≤ length d = omega (arith, fits) in z), l₁.next)

  candidate : drop from (take next d₃) ≡ alt
  candidate =
      ap (drop from) (laid_behind all_laid fits ∙ sym (append_assoc (take len d) (comma_behind n) alt))
      ∙ drop_at (take len d ++ comma_behind n) alt from text_length_lem

  the_list : listed (take next d₃) len n ≡ listed d len n
  the_list = listed_same d₃ (take next d₃) len n (take-take len next d₃ list_before) ∙ listed_before h alt all_laid alt_short

  module _ {b : Bool} (test : b ≡ any_of (same_bytes (drop from (take next d₃))) (listed (take next d₃) len n)) where
    among : any_of (same_bytes alt) (listed d len n) ≡ b
    among = ap (λ (x : List ℕ). any_of (same_bytes x) (listed d len n)) (sym candidate)
        ∙ ap (any_of (same_bytes (drop from (take next d₃)))) (sym the_list) ∙ sym test

    pub adds_old : b ≡ true → AddedTo (listed d len n) (alt ∷ []) d₃ len n
    adds_old t = (not_added h alt all_laid alt_short, listed_before h alt all_laid alt_short ∙ sym (add_old (listed d len n) alt (among ∙ t)))

    pub adds_fresh : b ≡ false → n < 14 → AddedTo (listed d len n) (alt ∷ []) d₃ next (n + 1)
    adds_fresh t few = (
      added_too h alt all_laid alt_short alt_free few,
      listed_behind h alt all_laid alt_short alt_free ∙ sym (add_fresh (listed d len n) alt (among ∙ t)),
    )

    pub adds_no_more : b ≡ false → 14 ≤ n → 14 < length (add_all (listed d len n) (alt ∷ []))
    adds_no_more t many =
        rw (add_fresh (listed d len n) alt (among ∙ t)) (omega (arith, length-append (listed d len n) (alt ∷ []), h.count))

-- ---- a field

pub adds_nothing : {d : List ℕ} {len n : ℕ} → Listed d len n → AddedTo (listed d len n) [] d len n
adds_nothing h = (h, refl)

module _ (end f : List ℕ) where
  pub no_letters_star : same_bytes f (spelled span_del) ≡ true → extended_letters end f ≡ []
  unfolding extended_letters
  no_letters_star h = rw h

  pub no_letters_symbol : same_bytes f (spelled non_ref) ≡ true → extended_letters end f ≡ []
  unfolding extended_letters
  no_letters_symbol h = go (same_bytes f (spelled span_del))
    where
      go : (b : Bool) → cond b [] (cond (same_bytes f (spelled non_ref)) [] ((map capital f ++ map capital end) ∷ [])) ≡ []
      go true = refl
      go false = rw h

  pub letters_extended : same_bytes f (spelled span_del) ≡ false → same_bytes f (spelled non_ref) ≡ false
      → extended_letters end f ≡ (map capital f ++ map capital end) ∷ []
  unfolding extended_letters
  letters_extended h k = rw (h, k)

-- ---- one of several

-- the ALTs so far, and the candidates that are left, make the whole
module _ (alts now rest whole : List (List ℕ)) (same : add_all alts (now ++ rest) ≡ whole) where
  split_off : add_all (add_all alts now) rest ≡ whole
  split_off = sym (foldl-append add_new alts now rest) ∙ same

  pub more_left : {after : List (List ℕ)} → after ≡ add_all alts now → add_all after rest ≡ whole
  more_left e = ap (λ (k : List (List ℕ)). add_all k rest) e ∙ split_off

  pub already_too_many : 14 < length (add_all alts now) → 14 < length whole
  already_too_many many = omega (arith, none_removed (add_all alts now) rest, ap length split_off)

-- ---- the fields of a site

module _ (list end : List ℕ) (whole : List (List ℕ)) where
  abbrev letters_from : ℕ → List (List ℕ)
  letters_from at = flat_map (extended_letters end) (fields_of 44 (drop at list))

  pub record FieldsLeft (d₀ d : List ℕ) (len n at : ℕ) : Type 0 where
    pub listing : Listed d len n
    pub within : at ≤ length list
    pub short : Every (λ f. length f ≤ max_site_letters) (fields_of 44 (drop at list))
    pub same : add_all (listed d len n) (letters_from at) ≡ whole
    pub sized : length d ≡ length d₀

  module _ {d₀ d : List ℕ} {len n at stop : ℕ} (left : FieldsLeft d₀ d len n at) (ends : stop ≡ at + field_length 44 (drop at list)) where
    -- the field there, and others
    field_there : (fs : List (List ℕ)) × (fields_of 44 (drop at list) ≡ between list at stop ∷ fs)
    field_there = go (dec_lt stop (length list))
      where
        go : Dec (stop < length list) → (fs : List (List ℕ)) × (fields_of 44 (drop at list) ≡ between list at stop ∷ fs)
        go (yes l) = (fields_of 44 (drop (stop + 1) list), field_first 44 list at stop ends l)
        go (no l) = ([], field_last 44 list at stop ends left.within (omega arith))

    pub field_short : ShortField (between list at stop)
    unfolding comma
    field_short =
        let (fs, e) = field_there in
        record { short = (every_uncons (subst (Every (λ f. length f ≤ max_site_letters)) e left.short)).0; free = field_has_none 44 list at stop ends }

    -- what is left to add, with this field in front
    from_here : (fs : List (List ℕ)) → fields_of 44 (drop at list) ≡ between list at stop ∷ fs
        → add_all (listed d len n) (extended_letters end (between list at stop) ++ flat_map (extended_letters end) fs) ≡ whole
    unfolding flat_map
    from_here fs e = ap (λ (l : List (List ℕ)). add_all (listed d len n) (flat_map (extended_letters end) l)) (sym e) ∙ left.same

    pub fields_too_many : 14 < length (add_all (listed d len n) (extended_letters end (between list at stop))) → 14 < length whole
    fields_too_many many =
        let (fs, e) = field_there in
        already_too_many (listed d len n) (extended_letters end (between list at stop)) (flat_map (extended_letters end) fs) whole
        (from_here fs e) many

    module _ {d' : List ℕ} {len' n' : ℕ} (added : AddedTo (listed d len n) (extended_letters end (between list at stop)) d' len' n') where
      pub fields_more : stop < length list → length d' ≡ length d → FieldsLeft d₀ d' len' n' (stop + 1)
      fields_more l sized = record {
        listing = added.0;
        within = omega arith;
        short = (every_uncons (subst (Every (λ f. length f ≤ max_site_letters)) (field_first 44 list at stop ends l) left.short)).1;
        same = more_left (listed d len n) (extended_letters end (between list at stop)) (letters_from (stop + 1)) whole
            (from_here (fields_of 44 (drop (stop + 1) list)) (field_first 44 list at stop ends l)) added.1;
        sized = sized ∙ left.sized;
      }

      pub fields_done : length list ≤ stop → Listed d' len' n' × (listed d' len' n' ≡ whole)
      unfolding flat_map
      fields_done l = (
        added.0,
        more_left (listed d len n) (extended_letters end (between list at stop)) [] whole
            (from_here [] (field_last 44 list at stop ends left.within l)) added.1,
      )

-- ---- a site

pub part_rest : (ref : List ℕ) (from : ℕ) → between ref from (length ref) ≡ drop from ref
part_rest ref from = take_all (length ref - from) (drop from ref) (rw (length-drop from ref) (omega arith))

-- the end of REF behind a site's own
pub end_short : {ref own' own end : List ℕ} → own ≡ own' → end ≡ between ref (length own) (length ref) → ShortField ref → ShortField end
end_short {ref} {own = own} o e h =
    rw (e, part_rest ref (length own))
    (record { short = omega (arith, length-drop (length own) ref, h.short); free = every_drop (length own) h.free })

module _ (s rows ref : List ℕ) (position site : ℕ) where
  pub no_letters_earlier : eqb (column 2 rows site) position ≡ false → site_letters s rows ref position site ≡ []
  unfolding site_letters
  no_letters_earlier h = rw h

  -- by its own REF, the end of REF behind that, and its ALTs
  pub letters_there : {own end list : List ℕ} → eqb (column 2 rows site) position ≡ true
      → own ≡ part_at 9 10 s rows site → end ≡ between ref (length own) (length ref) → list ≡ part_at 11 12 s rows site
      → site_letters s rows ref position site ≡ flat_map (extended_letters end) (fields_of comma list)
  unfolding site_letters
  letters_there {own} h o e l = rw (h, ← o, ← l, e, part_rest ref (length own))

-- ---- the sites, last sample first

-- those that were yielded, by their numbers
abbrev pub seen : List (Bor ℕ) → List ℕ
seen = map (λ y. y.now)

pub none_added : (d : List ℕ) → 4096 ≤ length d → AddedTo [] [] d 0 0
unfolding listed
none_added d room = (record { room = room; few = omega arith; small = omega arith; count = refl }, refl)

module _ (s rows ref : List ℕ) (position : ℕ) (ys : List (Bor ℕ)) (x : Bor ℕ) {d : List ℕ} {len n : ℕ}
    (so_far : AddedTo [] (flat_map (site_letters s rows ref position) (seen ys)) d len n) where
  abbrev letters : ℕ → List (List ℕ)
  letters = site_letters s rows ref position

  from_first : (rest : List (List ℕ)) → add_all (listed d len n) rest ≡ add_all [] (flat_map letters (seen ys) ++ rest)
  from_first rest = ap (λ (l : List (List ℕ)). add_all l rest) so_far.1 ∙ sym (foldl-append add_new [] (flat_map letters (seen ys)) rest)

  one_more : flat_map letters (seen (ys ++ (x ∷ []))) ≡ flat_map letters (seen ys) ++ letters x.now
  unfolding flat_map
  one_more =
      ap (flat_map letters) (map-append (λ (y : Bor ℕ). y.now) ys (x ∷ []))
      ∙ flat_map_append letters (seen ys) (x.now ∷ [])
      ∙ ap (λ (l : List (List ℕ)). flat_map letters (seen ys) ++ l) (append-nil (letters x.now))

  pub sites_more : {d' : List ℕ} {len' n' : ℕ} → AddedTo (listed d len n) (letters x.now) d' len' n'
      → AddedTo [] (flat_map letters (seen (ys ++ (x ∷ [])))) d' len' n'
  sites_more added = (added.0, rw one_more (added.1 ∙ from_first (letters x.now)))

  pub sites_too_many : (all : List ℕ) → seen ys ≡ take (length ys) all → length ys < length all → x.now ≡ get_or all (length ys) x.now
      → 14 < length (add_all (listed d len n) (letters x.now)) → 14 < length (add_all [] (flat_map letters all))
  unfolding flat_map
  sites_too_many all before below this many =
      let rest = flat_map letters (drop (suc (length ys)) all) in
      let parts : all ≡ seen ys ++ (x.now ∷ drop (suc (length ys)) all) =
      sym (take-append-drop (length ys) all)
      ∙ rw (← before, drop-cons all (length ys) x.now below, ← this) in
      let whole : add_all [] (flat_map letters (seen ys) ++ (letters x.now ++ rest)) ≡ add_all [] (flat_map letters all) =
      ap (add_all []) (sym (ap (flat_map letters) parts ∙ flat_map_append letters (seen ys) (x.now ∷ drop (suc (length ys)) all))) in
      already_too_many (listed d len n) (letters x.now) rest (add_all [] (flat_map letters all))
      (from_first (letters x.now ++ rest) ∙ whole) many
