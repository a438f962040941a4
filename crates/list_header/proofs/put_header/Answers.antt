-- The line with the number of samples; then in each turn a name's line: the lines from its own on are left, with the last one.
use Prim.Native.Nat.{◌+◌, ◌-◌, ◌<◌, ◌^◌, ℕ}
use borrow.Author.Rules.{rules}
use lib.ListN.{length}
use mathlib.Core.List.{List, ◌++◌}
use mathlib.Core.Path.{◌∙◌, ◌≡◌}
use native.Mathlib.Omega.{arith}
use Rattle.definitions.specs.Bytes.{text}
use Rattle.definitions.specs.Lines.{key_of}
use Rattle.definitions.specs.Numbers.{decimal}
use Rattle.kv_write.proofs.Laying.{Left, fits_first, fits_rest, laid_append, last, left_length, recast, room, several, start}
use Rattle.kv_write.specs.Keyed.{keyed}
use Rattle.list_header.proofs.HeaderLines.{header_fits, lines_end, lines_next, lines_start, lines_from, pair_name, pairs_length}
use Rattle.list_header.specs.HeaderNames.{HeaderNames}
use Rattle.tables.specs.Tables.{name_at}
use Rattle.list_header.proofs.put_header.Goals as goal

-- what is laid fits, its first line and those behind it
whole-fits : (s names : List ℕ) (samples records : ℕ) → HeaderNames s names samples → records < 2 ^ 32
    → 0 + length (keyed (key_of "samples") (decimal samples) ++ lines_from s names samples records 0) < 2 ^ 64
whole-fits s names samples records h small =
    rw (← lines_start s names samples records) (omega (arith, header_fits s names samples records h small))

-- and so does the line of a name
fits-name : {d₀ all d : List ℕ} {at₀ at : ℕ} (s names : List ℕ) (samples records i : ℕ) (name : List ℕ)
    → name ≡ name_at s names i → i < samples → Left d₀ at₀ all d at (lines_from s names samples records i)
    → at + length (keyed (key_of "sample") name) < 2 ^ 64
fits-name s names samples records i name e h l =
    room (keyed (key_of "sample") name) _ (recast (lines_next s names samples records i name e h) l)

pub overflow_cast-samples : goal.overflow_cast-samples
overflow_cast-samples c = omega arith

pub put_number_line-next-requires : goal.put_number_line-next-requires
unfolding key_of text
put_number_line-next-requires c = let pre = c.requires in
    let fits = whole-fits _ _ _ c.args.records pre (omega arith) in
    fits_first _ (keyed (key_of "samples") (decimal _)) _ fits

pub loop-part-init : goal.loop-part-init
unfolding key_of text
loop-part-init c = let pre = c.requires in
    let fits = whole-fits _ _ _ c.args.records pre (omega arith) in
    start (fits_rest _ c.put_number_line-next.ensures fits)

pub put_line-next-requires : goal.put_line-next-requires
unfolding key_of text
put_line-next-requires c =
    let count = pairs_length c.args.s.now _ _ _ c.as_chunks.ensures.front c.as_chunks.ensures.front_len c.requires.in_table in
    let below : c.loop-part.part-index < c.args.samples = omega (arith, count, c.loop-part-test.true) in
    let here = c.part-name.ensures ∙ pair_name _ _ _ _ c.as_chunks.ensures.front c.as_chunks.ensures.front_len c.requires.in_table _ _ below in
    fits-name _ _ _ _ _ _ here below c.loop-part.invariant

pub loop-part-preserved : goal.loop-part-preserved
unfolding key_of text
loop-part-preserved c =
    let count = pairs_length c.args.s.now _ _ _ c.as_chunks.ensures.front c.as_chunks.ensures.front_len c.requires.in_table in
    let below : c.loop-part.part-index < c.args.samples = omega (arith, count, c.loop-part-test.true) in
    let here = c.part-name.ensures ∙ pair_name _ _ _ _ c.as_chunks.ensures.front c.as_chunks.ensures.front_len c.requires.in_table _ _ below in
    several c.put_line-next.ensures (recast (lines_next _ _ _ _ _ _ here below) c.loop-part.invariant)

pub put_number_line-requires : goal.put_number_line-requires
unfolding key_of text
put_number_line-requires c =
    let count = pairs_length c.args.s.now _ _ _ c.as_chunks.ensures.front c.as_chunks.ensures.front_len c.requires.in_table in
    (recast (lines_end _ _ _ _ _ (omega (arith, count, c.loop-part-test.false))) c.loop-part.invariant).fits

pub shape_of-out : goal.shape_of-out
shape_of-out c = c.put_number_line.auto.out
    ∙ left_length c.loop-part.invariant
    ∙ c.put_number_line-next.auto.out

pub returns : goal.returns
unfolding key_of text
returns c = let first = c.put_number_line-next.ensures in
    let inv = c.loop-part.invariant in
    let count = pairs_length c.args.s.now _ _ _ c.as_chunks.ensures.front c.as_chunks.ensures.front_len c.requires.in_table in
    let left = recast (lines_end _ _ _ _ _ (omega (arith, count, c.loop-part-test.false))) inv in
    rw lines_start (laid_append first (last c.put_number_line.ensures left))
