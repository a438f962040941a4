-- What a call answers, what its buffers hold at the end, and what the programs print.
use Rattle.std.specs.Prelude.{◌+◌, ℕ, eqb, leb, drop, length, Bool}
use mathlib.Core.List.{List, [], ◌++◌, ◌∷◌, flat_map, map}
use Rattle.std.proofs.Math.Option.{Option, get_or}
use Rattle.definitions.specs.Bytes.{comma}
use Rattle.definitions.specs.CalledList.{called_list}
use Rattle.definitions.specs.Checked.{Checked, ◌>>◌, ◌>>=◌, accepted, refused, require}
use Rattle.definitions.specs.CombinedList.{combined_list}
use Rattle.definitions.specs.DepthWindows.{windows_along}
use Rattle.definitions.specs.Limits.{program_bytes, program_scratch, program_windows}
use Rattle.definitions.specs.Lines.{line, line_at, lines_of}
use Rattle.definitions.specs.Lists.{missing_or}
use Rattle.definitions.specs.LookUp.{LookedUp, look_up}
use Rattle.definitions.specs.Looks.{looks_of}
use Rattle.definitions.specs.Numbers.{decimal, name, number, written_or_missing}

-- ---- a call

-- how many values a call writes, or the row that refuses it
unfoldable pub written_of : {A : Type 0} → Checked (List A) → Checked ℕ
written_of (refused n) = refused n
written_of (accepted values) = accepted (length values)

-- the same as two numbers, for C: that of the row that refuses the call, 0 for none, and how many values it wrote
pub record Answer : Type 0 where
  pub number : ℕ
  pub written : ℕ

-- the answer of a call that gives these values or is refused
unfoldable pub answer_of : {A : Type 0} → Checked (List A) → Answer
answer_of (refused n) = record { number = n; written = 0 }
answer_of (accepted values) = record { number = 0; written = length values }

-- what the output holds at the end: the values, and behind them what it held before; all that it held before if the call is refused
unfoldable pub output_after : {A : Type 0} → Checked (List A) → List A → List A
output_after (refused n) before = before
output_after (accepted values) before = values ++ drop (length values) before

-- what scratch holds after every call: zero in each place
unfoldable pub scratch_after : List ℕ → List ℕ
scratch_after = map (λ _. 0)

-- ---- a program

-- what a program prints: the list, or `refused=` and the number
unfoldable pub printed_answer : Checked (List ℕ) → List ℕ
printed_answer (refused n) = line "refused" (decimal n)
printed_answer (accepted list) = list

-- a file has at most 65,536 bytes
unfoldable pub file_fits : List ℕ → Bool
file_fits s = leb (length s) program_bytes

-- what a program takes of a file with these contents, `none` if it is absent: a longer one is refused with 2, as a text that is too long
unfoldable pub file_text : Option (List ℕ) → Checked (Option (List ℕ))
file_text contents = do
  require 2 (missing_or file_fits contents)
  accepted contents

-- the list of cohort.kv, clip.kv and reference.kv, by what the program takes of each; an absent cohort.kv is an empty text
unfoldable pub combined_files : Checked (Option (List ℕ)) → Checked (Option (List ℕ)) → Checked (Option (List ℕ)) → Checked (List ℕ)
combined_files cohort clip reference = do
  c ← cohort
  l ← clip
  r ← reference
  combined_list (record { cohort = get_or c []; clip = l; reference = r }) program_scratch program_bytes

-- `combine`, by the contents of its three files, each `none` if it is absent
unfoldable pub combine_program : Option (List ℕ) → Option (List ℕ) → Option (List ℕ) → List ℕ
combine_program cohort clip reference = printed_answer (combined_files (file_text cohort) (file_text clip) (file_text reference))

-- the called list of combined.kv, by what the program takes of it; absent, it is an empty text
unfoldable pub called_file : Checked (Option (List ℕ)) → Checked (List ℕ)
called_file combined = do
  c ← combined
  called_list (get_or c []) program_bytes

-- `call`, by the contents of combined.kv, `none` if it is absent
unfoldable pub call_program : Option (List ℕ) → List ℕ
call_program combined = printed_answer (called_file (file_text combined))

-- the contig that contig.kv asks for, in one line
unfoldable pub asked_contig : List ℕ → Checked (List ℕ)
asked_contig s = do
  contig ← line_at (lines_of s) 0 "contig" name
  require 1 (eqb (length (lines_of s)) 1)
  accepted contig

-- the looks of a contig, by what the program takes of the three texts and of contig.kv, which is ranked directly after the texts' length;
-- absent, cohort.kv and contig.kv are empty texts
unfoldable pub looks_files : Checked (Option (List ℕ)) → Checked (Option (List ℕ)) → Checked (Option (List ℕ)) → Checked (Option (List ℕ)) → Checked ℕ
looks_files cohort clip reference asked = do
  c ← cohort
  l ← clip
  r ← reference
  a ← asked
  contig ← asked_contig (get_or a [])
  looks_of (record { cohort = get_or c []; clip = l; reference = r }) program_scratch contig

-- what the program prints of them: `looks=` and the figure, or `refused=` and the number
unfoldable pub printed_looks : Checked ℕ → List ℕ
printed_looks (refused n) = line "refused" (decimal n)
printed_looks (accepted figure) = line "looks" (decimal figure)

-- `looks`, by the contents of its four files, each `none` if it is absent
unfoldable pub looks_program : Option (List ℕ) → Option (List ℕ) → Option (List ℕ) → Option (List ℕ) → List ℕ
looks_program cohort clip reference asked = printed_looks (looks_files (file_text cohort) (file_text clip) (file_text reference) (file_text asked))

-- the places that places.kv asks for, looked up in combined.kv, by what the program takes of each; absent, each is an empty text
unfoldable pub look_up_files : Checked (Option (List ℕ)) → Checked (Option (List ℕ)) → Checked LookedUp
look_up_files combined asked = do
  c ← combined
  a ← asked
  look_up (get_or c []) (get_or a [])

-- what the program prints of them: for each place a line `record`, with the number or `.`, and then `groups`; or `refused=` and the number
unfoldable pub printed_looked_up : Checked LookedUp → List ℕ
printed_looked_up (refused n) = line "refused" (decimal n)
printed_looked_up (accepted l) = flat_map (λ o. line "record" (written_or_missing decimal o)) l.found ++ line "groups" (decimal l.groups)

-- `look_up`, by the contents of its two files, each `none` if it is absent
unfoldable pub look_up_program : Option (List ℕ) → Option (List ℕ) → List ℕ
look_up_program combined asked = printed_looked_up (look_up_files (file_text combined) (file_text asked))

-- what depth.kv asks for
pub record AskedDepth : Type 0 where
  pub contig : List ℕ
  pub sample : ℕ
  pub threshold : ℕ
  pub size : ℕ
  pub step : ℕ

-- in five lines
unfoldable pub asked_depth : List ℕ → Checked AskedDepth
asked_depth s =
    let ls = lines_of s in do
      contig ← line_at ls 0 "contig" name
      sample ← line_at ls 1 "sample" number
      threshold ← line_at ls 2 "threshold" number
      size ← line_at ls 3 "length" number
      step ← line_at ls 4 "step" number
      require 1 (eqb (length ls) 5)
      accepted (record { contig = contig; sample = sample; threshold = threshold; size = size; step = step })

-- a line for each window: its first position, a comma and its count
unfoldable pub printed_windows : ℕ → ℕ → List ℕ → List ℕ
printed_windows step first [] = []
printed_windows step first (count ∷ counts) =
    line "window" (decimal first ++ (comma ∷ decimal count)) ++ printed_windows step (first + step) counts

-- the windows of combined.kv, by what the program takes of it and of depth.kv, which is ranked directly after the texts' length; absent,
-- they are empty texts
unfoldable pub depth_files : Checked (Option (List ℕ)) → Checked (Option (List ℕ)) → Checked (List ℕ)
depth_files combined asked = do
  c ← combined
  a ← asked
  q ← asked_depth (get_or a [])
  windows ← windows_along (get_or c []) q.contig q.sample q.threshold q.size q.step program_windows
  accepted (printed_windows q.step windows.first windows.counts)

-- `depth`, by the contents of its two files, each `none` if it is absent
unfoldable pub depth_program : Option (List ℕ) → Option (List ℕ) → List ℕ
depth_program combined asked = printed_answer (depth_files (file_text combined) (file_text asked))
