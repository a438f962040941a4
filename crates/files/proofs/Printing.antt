-- What a program prints, in the buffer that its list was written to.
use Prim.Native.Nat.{◌<◌, ◌^◌, ◌≤◌, ℕ}
use lib.ListN.{drop, length, length-append, take}
use lib.Seq.{drop_at, length-take-le, take_all, take_at, take-length}
use mathlib.Core.List.{List, ◌++◌}
use mathlib.Core.Path.{◌∙◌, ◌≡◌, ap, refl, sym}
use native.Mathlib.Decide.{dec_le}
use native.Mathlib.Nat.{zero-add}
use native.Mathlib.Omega.{arith}
use Rattle.answers.specs.Answered.{Answered, row_of}
use Rattle.answers.specs.declared.Refusal.{Refusal}
use Rattle.definitions.specs.Answers.{output_after, printed_answer, printed_looks, written_of}
use Rattle.definitions.specs.Bytes.{text}
use Rattle.definitions.specs.Checked.{Checked, accepted, refused}
use Rattle.definitions.specs.Lines.{key_of}
use Rattle.definitions.specs.Numbers.{decimal}
use Rattle.kv_write.proofs.Laying.{sets_front}
use Rattle.kv_write.specs.Keyed.{keyed}
use Rattle.kv_write.proofs.Lines.{line_keyed}
use Rattle.kv_write.specs.Laid.{Laid}
use Rattle.laws.proofs.Checked.{accepted_same}
use Rattle.std.specs.Prelude.{Err, Ok, Result}
use Rattle.files.proofs.LaidDigits.{length_most}
use Rattle.files.specs.Printing.{AnswerPrinted, Printed, written_values}

-- ---- bytes in a buffer

-- bytes were laid over the start of a buffer that has room for them
pub laid_printed : {bytes before after : List ℕ} {r : ℕ} → length bytes ≤ length before → Laid before 0 bytes after r → Printed bytes before after r
laid_printed {bytes} {before} {after} {r} h p =
    let count : r ≡ length bytes = p.next ∙ zero-add _ in
    let whole : after ≡ bytes ++ drop (length bytes) before = p.laid ∙ sets_front before bytes h in
    record {
      printed = rw whole (take_at bytes _ r (sym count));
      count = count;
      behind = rw whole (drop_at bytes _ r (sym count) ∙ rw count);
    }

-- the first bytes stand there already
pub front_printed : (list : List ℕ) (count : ℕ) {r : ℕ} → r ≡ length (take count list) → Printed (take count list) list list r
front_printed list count {r} e = record { printed = take_min e; count = e; behind = refl }
  where
    take_min : r ≡ length (take count list) → take r list ≡ take count list
    take_min e = go (dec_le count (length list))
      where
        go : Dec (count ≤ length list) → take r list ≡ take count list
        go (yes h) = ap (λ n. take n list) (e ∙ length-take-le count list h)
        go (no h) = let all = take_all count list (omega arith) in rw (e, all) (take-length list)

-- ---- a refusal

pub refusal_keyed : (n : ℕ) → printed_answer (refused n) ≡ keyed (text "refused=") (decimal n)
unfolding printed_answer key_of text
refusal_keyed n = line_keyed "refused" _ (decimal n) refl

pub refusal_short : (n : ℕ) → n < 2 ^ 64 → length (printed_answer (refused n)) ≤ 29
unfolding text
refusal_short n h = rw (refusal_keyed n) (simp length-append (omega (arith, length_most n h)))

-- ---- a figure

pub figure_keyed : (n : ℕ) → printed_looks (accepted n) ≡ keyed (text "looks=") (decimal n)
unfolding printed_looks key_of text
figure_keyed n = line_keyed "looks" _ (decimal n) refl

pub figure_short : (n : ℕ) → n < 2 ^ 64 → length (printed_looks (accepted n)) ≤ 29
unfolding text
figure_short n h = rw (figure_keyed n) (simp length-append (omega (arith, length_most n h)))

-- a refusal is printed as that of a list
pub refusal_same : (n : ℕ) → printed_looks (refused n) ≡ printed_answer (refused n)
unfolding printed_looks printed_answer
refusal_same n = refl

-- ---- an answer

-- what a call wrote are the values that it promised
pub values_written : (values : Checked (List ℕ)) {out out' : List ℕ} (r : Result ℕ Refusal) → Answered values out out' r
    → written_values r out' ≡ values
unfolding written_of output_after
values_written (refused n) (Ok count) a = let e : ◌≡◌ {A = Checked ℕ} (accepted count) (refused n) = a.answer in cc
values_written (refused n) (Err refusal) a = let e : ◌≡◌ {A = Checked ℕ} (refused (row_of refusal)) (refused n) = a.answer in cc
values_written (accepted list) (Ok count) a =
    let e : count ≡ length list = accepted_same a.answer in
    ap accepted (rw a.output (take_at list _ count (sym e)))
values_written (accepted list) (Err refusal) a =
    let e : ◌≡◌ {A = Checked ℕ} (refused (row_of refusal)) (accepted (length list)) = a.answer in cc

-- behind what is printed the output is as it was
same_behind : (values : Checked (List ℕ)) (out : List ℕ) {out' : List ℕ} {r : ℕ} → out' ≡ output_after values out → r ≡ length (printed_answer values)
    → drop r out' ≡ drop r out
unfolding output_after printed_answer
same_behind (refused n) out {r = r} e count = ap (drop r) e
same_behind (accepted list) out {r = r} e count = rw e (drop_at list _ r (sym count) ∙ rw count)

-- what is printed where the number is the refusal's row
pub row_printed : (o : Result ℕ Refusal) {before after : List ℕ} {r : ℕ} → AnswerPrinted (λ refusal row. row ≡ row_of refusal) o before after r
    → Printed (printed_answer (written_values o before)) before after r
row_printed (Ok count) p = p
row_printed (Err refusal) p = rw p.1 at p.2

-- so printing what it wrote prints them
pub answered_printed : (values : Checked (List ℕ)) {out out' out'' : List ℕ} (o : Result ℕ Refusal) {r : ℕ} → Answered values out out' o
    → Printed (printed_answer (written_values o out')) out' out'' r → Printed (printed_answer values) out out'' r
answered_printed values {out} o a p =
    let q = rw (values_written values o a) at p in
    record { printed = q.printed; count = q.count; behind = q.behind ∙ same_behind values out a.output q.count }
