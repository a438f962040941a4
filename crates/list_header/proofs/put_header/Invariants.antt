-- The line with the number of samples; then in each turn a name's line: the lines from its own on are left, with the last one.
use Prim.Native.Nat.{◌+◌, ◌-◌, ◌<◌, ◌^◌, ℕ}
use borrow.Author.Rules.{rules}
use lib.ListN.{length}
use mathlib.Core.List.{List, ◌++◌}
use mathlib.Core.Path.{◌∙◌, ◌≡◌}
use native.Mathlib.Omega.{arith}
use Rattle.definitions.specs.Bytes.{text}
use Rattle.definitions.specs.Lines.{key_of}
use Rattle.definitions.specs.Numbers.{decimal}
use Rattle.kv_write.proofs.Laying.{Left, fits_first, fits_rest, laid_append, last, left_length, recast, room, several, start}
use Rattle.kv_write.specs.Keyed.{keyed}
use Rattle.list_header.proofs.HeaderLines.{header_fits, lines_end, lines_next, lines_start, lines_from}
use Rattle.list_header.specs.HeaderNames.{HeaderNames}
use Rattle.tables.specs.Tables.{name_at}
use Rattle.list_header.proofs.put_header.Given as goal

abbrev pub invariant-loop-part : goal.invariant-loop-part
invariant-loop-part l = Left l.initial.out l.initial.next (lines_from l.s l.names l.samples l.records 0) l.out l.next (lines_from l.s l.names l.samples l.records l.part-index)
