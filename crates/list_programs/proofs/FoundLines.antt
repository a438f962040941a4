-- From the answer of a look-up to the lines that the program prints.
use Prim.Native.Nat.{◌+◌, ◌-◌, ◌<◌, ◌^◌, ◌≤◌, suc, ℕ}
use borrow.Author.Tests.{le-leb, ltb-true, ne_eqb}
use lib.Dec.{eqb, leb, ltb}
use lib.ListN.{drop, drop_of_length-le, get_or, length, length-append, length-map, take}
use lib.Seq.{drop-cons, take_at}
use mathlib.Core.Bool.{Bool, cond, false, not, true}
use mathlib.Core.List.{List, [], ◌++◌, ◌∷◌, flat_map, map}
use mathlib.Core.Option
use mathlib.Core.Option.{Option, none, some}
use mathlib.Core.Path.{◌∙◌, ◌≡◌, ap, refl, sym}
use native.Mathlib.Numerals.{add-one}
use native.Mathlib.Omega.{arith}
use Rattle.definitions.specs.Answers.{look_up_files, look_up_program, output_after, printed_answer, printed_looked_up}
use Rattle.definitions.specs.Bytes.{text}
use Rattle.definitions.specs.Checked.{Checked, ◌>>=◌, ◌>>◌, accepted, refused, require}
use Rattle.definitions.specs.Lines.{Line, key_of, line, line_at}
use Rattle.definitions.specs.ListReader.{record_read}
use Rattle.definitions.specs.Lists.{index_where, only_if}
use Rattle.definitions.specs.LookUp.{LookedUp, Place, found_numbers, holds_place, last_of, look_up, look_up_within, looked_up, max_places, no_record, numbers_written, read_to, read_to_last, reaches}
use Rattle.definitions.specs.Numbers.{decimal, max_number, number, written_or_missing}
use Rattle.definitions.specs.Records.{Record}
use Rattle.files.proofs.FileTexts.{read_whole, taken_long, taken_whole, text_or_empty}
use Rattle.files.proofs.LaidDigits.{length_most}
use Rattle.files.specs.FileTexts.{ReadAnswer, read_text, text_length, too_long}
use Rattle.kv_write.proofs.Laying.{Left, done, laid_append, recast, room, several, start}
use Rattle.kv_write.proofs.Lines.{line_keyed}
use Rattle.kv_write.specs.Keyed.{keyed}
use Rattle.kv_write.specs.Laid.{Laid}
use Rattle.laws.proofs.Checked.{accepted_same, after_required, after_then, not_refused, required, then, then_refused}
use Rattle.laws.proofs.Decimals.{InRange}
use Rattle.laws.proofs.Every.{Every, IfThere, also, every_all, every_map, every_of_map, flat_map_few, if_there, index_below, nothing}
use Rattle.laws.proofs.Lines.{line_at_back}
use Rattle.laws.proofs.LookUp.{places_few}
use Rattle.laws.proofs.SoundValues.{number_sound}
use Rattle.answers.specs.Answered.{row_of}
use Rattle.answers.specs.declared.Refusal.{Refusal}
use Rattle.position_lookup.specs.Found.{Gives, counts_of}
use Rattle.position_lookup.specs.declared.LookedUp as looked
use Rattle.std.specs.Prelude as std
use Rattle.list_programs.specs.FoundLines.{LookUpWhole, answer_lines, found_lines, most_bytes, record_option}

-- ---- the numbers of an answer

-- every number is that of a record, below the one for none
small_to : (samples records : ℕ) (q : Place) (before rs : List Record) (gs : List (List Line)) → read_to samples records q before gs ≡ accepted rs
    → length rs ≤ records - length before
unfolding read_to record_read
small_to samples records q before rs [] e = rw (← accepted_same e) (omega arith)
small_to samples records q before rs (g ∷ gs) e =
    after_then _ _ e λ r p e. after_then _ _ e λ rest f e.
    let fewer : length before < records = after_required 1 _ _ p λ t _. ltb-true (length before) records t in
    rw (← accepted_same e) (go r (reaches q r) rest f fewer (λ rs h. small_to samples records q (r ∷ before) rs gs h))
  where
    go : (r : Record) (b : Bool) (rest : List Record)
        → cond b (accepted []) (read_to samples records q (r ∷ before) gs) ≡ accepted rest → length before < records
        → ((rs : List Record) → read_to samples records q (r ∷ before) gs ≡ accepted rs → length rs ≤ records - length (r ∷ before))
        → length (r ∷ rest) ≤ records - length before
    go r true rest f fewer ih = rw (← accepted_same f) (omega arith)
    go r false rest f fewer ih = omega (arith, ih rest f)

small_last : (samples records : ℕ) (o : Option Place) (rs : List Record) (gs : List (List Line)) → read_to_last samples records o gs ≡ accepted rs
    → length rs ≤ records
unfolding read_to_last
small_last samples records none rs gs e = rw (← accepted_same e) (omega arith)
small_last samples records (some q) rs gs e = omega (arith, small_to samples records q [] rs gs e)

abbrev Small : Option ℕ → Type 0
Small = IfThere (λ i. i < no_record)

pub record Right (s asked : List ℕ) (l : LookedUp) : Type 0 where
  pub small : Every Small l.found
  pub few : length l.found ≤ max_places

right_found : (s asked : List ℕ) (l : LookedUp) → look_up s asked ≡ accepted l → Right s asked l
unfolding look_up looked_up max_number
right_found s asked l e =
    after_required 2 _ _ e λ t e. after_then _ _ e λ places p e. after_then _ _ e λ names q e. after_then _ _ e λ count k e.
    after_then _ _ e λ records r e.
    let figure : count ≤ max_number = line_at_back InRange _ _ "records" number number_sound k in
    let most : length records ≤ count = small_last _ _ (last_of places) records _ r in
    rw (← accepted_same e)
    (record {
      small = every_of_map _ (every_all (λ place. if_there {A = ℕ} {P = λ i. i < length records} {Q = λ i. i < no_record}
          (index_where (holds_place place) records) (λ i h. omega arith) (index_below (holds_place place) records)) places);
      few = rw (length-map places _) (places_few asked places p);
    })

-- so 1,024 places are enough
pub within_all : (s asked : List ℕ) → look_up_within s asked max_places ≡ look_up s asked
unfolding look_up_within
within_all s asked = go (look_up s asked) refl
  where
    go : (m : Checked LookedUp) → look_up s asked ≡ m
        → (m >>= λ l. require 14 (leb (length l.found) max_places) >> accepted l) ≡ m
    go (refused n) e = then_refused _ _ refl
    go (accepted l) e = then _ _ refl (required 14 _ _ (le-leb (length l.found) max_places (right_found s asked l e).few) refl)

-- ---- the lines

-- the line of an answer
abbrev line_of : Option ℕ → List ℕ
line_of o = line "record" (written_or_missing decimal o)

option_back : (o : Option ℕ) → Small o → record_option (Option.get_or o no_record) ≡ o
unfolding record_option only_if
option_back none h = refl
option_back (some i) h = rw (ne_eqb i no_record (λ e. omega arith))

lines_are : {found : List (Option ℕ)} → Every Small found → answer_lines (found_numbers found) ≡ flat_map line_of found
unfolding answer_lines found_numbers flat_map
lines_are nothing = refl
lines_are (also {x = o} {xs = os} h hs) = rw (option_back o h, lines_are hs)

-- a line has at most 28 bytes
line_short : (o : Option ℕ) → Small o → length (line_of o) ≤ 28
unfolding written_or_missing key_of text
line_short none h = rw (line_keyed "record" _ (text ".") refl) (simp length-append (omega arith))
line_short (some i) h = rw (line_keyed "record" _ (decimal i) refl) (simp length-append (omega (arith, length_most i (omega arith))))

-- ---- the answer

-- what a call found: how many pairs, how many groups, and the numbers in the table
pub record Found (s asked found : List ℕ) (n groups : ℕ) : Type 0 where
  pub answer : LookedUp
  pub value : look_up s asked ≡ accepted answer
  pub count : n ≡ length answer.found
  pub groups_are : groups ≡ answer.groups
  pub numbers : take n found ≡ found_numbers answer.found
  pub few : n ≤ max_places
  pub short : length (answer_lines (take n found)) ≤ most_bytes
  pub lines : found_lines (take n found) groups ≡ printed_looked_up (accepted answer)

module _ (s asked : List ℕ) {found₀ found : List ℕ} where
  pub refused_found : (r : Refusal) → Gives (look_up_within s asked max_places) found₀ found (std.Err r) → look_up s asked ≡ refused (row_of r)
  unfolding counts_of
  refused_found r g = go (look_up s asked) refl
    where
      told : refused (row_of r) ≡ counts_of (look_up s asked)
      told = g.answer ∙ ap counts_of (within_all s asked)

      go : (m : Checked LookedUp) → look_up s asked ≡ m → m ≡ refused (row_of r)
      go (refused n) e = let k : ◌≡◌ {A = Checked looked.LookedUp} (refused (row_of r)) (refused n) = told ∙ ap counts_of e in ap refused (sym (same k))
        where
          same : {m n : ℕ} → ◌≡◌ {A = Checked looked.LookedUp} (refused m) (refused n) → m ≡ n
          same e = cc
      go (accepted l) e = not_refused (told ∙ ap counts_of e)

  pub some_found : (c : looked.LookedUp) → Gives (look_up_within s asked max_places) found₀ found (std.Ok c) → Found s asked found c.pairs c.groups
  unfolding counts_of output_after numbers_written printed_looked_up found_numbers
  some_found c g = go (look_up s asked) refl
    where
      told : accepted c ≡ counts_of (look_up s asked)
      told = g.answer ∙ ap counts_of (within_all s asked)

      go : (m : Checked LookedUp) → look_up s asked ≡ m → Found s asked found c.pairs c.groups
      go (refused row) e = not_refused (sym (told ∙ ap counts_of e))
      go (accepted l) e =
          let same = accepted_same (told ∙ ap counts_of e) in
          let n_is : c.pairs ≡ length l.found = ap (λ (c : looked.LookedUp). c.pairs) same in
          let g_is : c.groups ≡ l.groups = ap (λ (c : looked.LookedUp). c.groups) same in
          let right = right_found s asked l e in
          let written : found ≡ found_numbers l.found ++ drop (length (found_numbers l.found)) found₀ =
          g.written ∙ ap (λ (m : Checked LookedUp). output_after (numbers_written m) found₀) (within_all s asked ∙ e) in
          let numbers : take c.pairs found ≡ found_numbers l.found =
          ap (take c.pairs) written ∙ take_at (found_numbers l.found) _ c.pairs (length-map l.found _ ∙ sym n_is) in
          let lines = lines_are right.small in
          let short = flat_map_few line_of 28 (every_map line_short right.small) in
          record {
            answer = l;
            value = e;
            count = n_is;
            groups_are = g_is;
            numbers = numbers;
            few = omega (arith, right.few);
            short = rw (numbers, lines) (omega (arith, right.few));
            lines = rw (numbers, lines, g_is);
          }

  -- the same for a table of 1,024 places
  pub refused_in : (places : ℕ) (r : Refusal) → places ≡ max_places → Gives (look_up_within s asked places) found₀ found (std.Err r)
      → look_up s asked ≡ refused (row_of r)
  refused_in places r e g = refused_found r (rw e at g)

  pub found_in : (places : ℕ) (c : looked.LookedUp) → places ≡ max_places → Gives (look_up_within s asked places) found₀ found (std.Ok c)
      → Found s asked found c.pairs c.groups
  found_in places c e g = some_found c (rw e at g)

-- so many numbers stand at the table's front
pub taken_size : {s asked found : List ℕ} {n groups : ℕ} → Found s asked found n groups → n ≡ length (take n found)
unfolding found_numbers
taken_size f = f.count ∙ sym (length-map f.answer.found _) ∙ sym (ap length f.numbers)

-- ---- the files

module _ (first second : ReadAnswer) (s t : List ℕ) where
  pub first_long : too_long first ≡ true → look_up_files (read_text first s) (read_text second t) ≡ refused 2
  unfolding look_up_files
  first_long e = then_refused _ _ (taken_long first s e)

  module _ (whole : too_long first ≡ false) where
    pub second_long : too_long second ≡ true → look_up_files (read_text first s) (read_text second t) ≡ refused 2
    unfolding look_up_files
    second_long e = then _ _ (taken_whole first s whole) (then_refused _ _ (taken_long second t e))

    pub both_taken : too_long second ≡ false
        → look_up_files (read_text first s) (read_text second t) ≡ look_up (take (text_length first) s) (take (text_length second) t)
    unfolding look_up_files
    both_taken e = then _ _ (taken_whole first s whole) (then _ _ (taken_whole second t e) (rw (text_or_empty first s, text_or_empty second t)))

pub look_up_whole : LookUpWhole
unfolding look_up_program
look_up_whole combined places first second s t list list' n p q m = rw (← read_whole p, ← read_whole q) m.printed

pub refusal_printed : (n : ℕ) → printed_looked_up (refused n) ≡ printed_answer (refused n)
unfolding printed_looked_up printed_answer
refusal_printed n = refl

-- ---- one line after the other

-- the next line, as its writer has it
next_line : (numbers : List ℕ) (i : ℕ) → i < length numbers
    → answer_lines (drop i numbers) ≡ keyed (text "record=") (written_or_missing decimal (record_option (get_or numbers i 0))) ++ answer_lines (drop (i + 1) numbers)
unfolding answer_lines flat_map key_of text
next_line numbers i h =
    rw (drop-cons numbers i 0 h, add-one)
    (ap (λ (l : List ℕ). l ++ answer_lines (drop (suc i) numbers)) (line_keyed "record" _ _ refl))

module _ (numbers : List ℕ) {out₀ out : List ℕ} {at i : ℕ} (l : Left out₀ 0 (answer_lines numbers) out at (answer_lines (drop i numbers))) where
  module _ (h : i < length numbers) {o : Option ℕ} (e : o ≡ record_option (get_or numbers i 0)) where
    next_left : Left out₀ 0 (answer_lines numbers) out at (keyed (text "record=") (written_or_missing decimal o) ++ answer_lines (drop (i + 1) numbers))
    next_left = rw e (recast (next_line numbers i h) l)

    pub line_room : at + length (keyed (text "record=") (written_or_missing decimal o)) < 2 ^ 64
    line_room = room (keyed (text "record=") (written_or_missing decimal o)) (answer_lines (drop (i + 1) numbers)) next_left

    pub line_laid : {out' : List ℕ} {at' : ℕ} → Laid out at (keyed (text "record=") (written_or_missing decimal o)) out' at'
        → Left out₀ 0 (answer_lines numbers) out' at' (answer_lines (drop (i + 1) numbers))
    line_laid p = several p next_left

  pub lines_laid : length numbers ≤ i → Laid out₀ 0 (answer_lines numbers) out at
  unfolding answer_lines flat_map
  lines_laid h = done (recast (ap answer_lines (drop_of_length-le numbers h)) l)

pub lines_start : (numbers out : List ℕ) → length (answer_lines numbers) ≤ most_bytes → Left out 0 (answer_lines numbers) out 0 (answer_lines numbers)
lines_start numbers out h = start (omega arith)

-- and behind them the line `groups`
pub groups_laid : (numbers : List ℕ) (groups : ℕ) {out₀ out out' : List ℕ} {at r : ℕ} → Laid out₀ 0 (answer_lines numbers) out at
    → Laid out at (keyed (text "groups=") (decimal groups)) out' r → Laid out₀ 0 (found_lines numbers groups) out' r
unfolding key_of text
groups_laid numbers groups p q = laid_append p (rw (line_keyed "groups" _ (decimal groups) refl) q)

pub groups_room : (numbers : List ℕ) (groups : ℕ) {out₀ out : List ℕ} {at : ℕ} → Laid out₀ 0 (answer_lines numbers) out at
    → length (answer_lines numbers) ≤ most_bytes → groups < 2 ^ 64 → at + length (keyed (text "groups=") (decimal groups)) < 2 ^ 64
unfolding text
groups_room numbers groups p h k = simp length-append (omega (arith, p.next, length_most groups k))

-- all of it fits the programs' buffer
pub found_short : (numbers : List ℕ) (groups : ℕ) → length (answer_lines numbers) ≤ most_bytes → groups < 2 ^ 64 → length (found_lines numbers groups) ≤ 65536
unfolding key_of text
found_short numbers groups h k =
    rw (line_keyed "groups" _ (decimal groups) refl) (simp length-append (omega (arith, length_most groups k)))
