-- Where the record's ALTs stand, stored one by one: what is left of their text.
use Prim.Native.Nat.{◌*◌, ◌+◌, ◌<◌, ◌≤◌, ℕ}
use lib.ListN.{drop, length, length-set, set}
use lib.Seq.{drop-drop, drop-set-lt}
use mathlib.Core.List.{List, [], ◌++◌, ◌∷◌, append_assoc, reverse, reverse-cons, reverse-reverse}
use mathlib.Core.Path.{◌∙◌, ◌≡◌, ap, refl, sym}
use native.Mathlib.Omega.{arith}
use Rattle.definitions.specs.Bytes.{comma, fields_of}
use Rattle.definitions.specs.Lists.{numbers_from}
use Rattle.kv_text.proofs.Fields.{field_first, field_last, first_of}
use Rattle.kv_text.specs.Fields.{between, field_length}
use Rattle.sample_names.proofs.Names.{names_reversed, stored}
use Rattle.tables.specs.Tables.{names_in}
use Rattle.sample_alleles.specs.Fields.{AltsSplit}

-- one more
names_next : (s names : List ℕ) (i a e : ℕ) → 2 * i + 1 < length names → names_in s (stored names i a e) (i + 1) ≡ names_in s names i ++ (between s a e ∷ [])
names_next s names i a e room =
    sym (reverse-reverse (names_in s (stored names i a e) (i + 1)))
    ∙ ap reverse (names_reversed s names i a e room)
    ∙ reverse-cons (between s a e) (reverse (names_in s names i))
    ∙ ap (λ (l : List (List ℕ)). l ++ (between s a e ∷ [])) (reverse-reverse (names_in s names i))

module _ (s before : List ℕ) where
  -- the fields that are stored and those from `at` on are all
  pub record Unsplit (fields : List ℕ) (at count : ℕ) : Type 0 where
    pub within : at ≤ length s
    pub long : length fields ≡ length before
    pub same : names_in s fields count ++ fields_of 44 (drop at s) ≡ fields_of comma s
    pub place : count + length (fields_of 44 (drop at s)) ≡ length (fields_of comma s)
    pub rest : drop (2 * count) fields ≡ drop (2 * count) before

  pub all_unsplit : Unsplit before 0 0
  unfolding comma names_in numbers_from
  all_unsplit = record { within = omega arith; long = refl; same = refl; place = omega arith; rest = refl }

  module _ (enough : 2 * length (fields_of comma s) ≤ length before) {fields : List ℕ} {at count : ℕ} (u : Unsplit fields at count) where
    pub room_here : 2 * count + 1 < length fields
    room_here = let (fs, e) = first_of 44 (drop at s) in omega (arith, u.place, u.long, ap length e, enough)

    module _ (fields' : List ℕ) {end : ℕ} (ends : end ≡ at + field_length 44 (drop at s)) (kept : fields' ≡ stored fields count at end) where
      long' : length fields' ≡ length before
      long' = rw kept (simp length-set u.long)

      rest' : drop (2 * (count + 1)) fields' ≡ drop (2 * (count + 1)) before
      rest' =
          let more : 2 * (count + 1) ≡ 2 * count + 2 = omega arith in
          rw (
            kept,
            drop-set-lt (2 * (count + 1)) (set fields (2 * count) at) (2 * count + 1) end (omega arith),
            drop-set-lt (2 * (count + 1)) fields (2 * count) at (omega arith),
            more,
            ← drop-drop 2 (2 * count) fields,
            ← drop-drop 2 (2 * count) before,
          )
          (ap (drop 2) u.rest)

      pub next_unsplit : end < length s → Unsplit fields' (end + 1) (count + 1)
      next_unsplit l =
          let cut = field_first 44 s at end ends l in
          record {
            within = omega arith;
            long = long';
            same = rw (kept, names_next s fields count at end room_here, append_assoc) (rw cut at u.same);
            place = omega (arith, u.place, ap length cut);
            rest = rest';
          }

      pub all_split : length s ≤ end → AltsSplit s before fields' (count + 1)
      all_split l =
          let cut = field_last 44 s at end ends u.within l in
          record {
            places =
                record {
                  split = rw (kept, names_next s fields count at end room_here) (sym (rw cut at u.same));
                  counted = omega (arith, u.place, ap length cut);
                  room = omega (arith, long', u.long, room_here);
                };
            rest = rest';
          }
