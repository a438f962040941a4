-- Field by field, each compared with REF.
use Prim.Native.Nat.{◌-◌}
use borrow.Author.Rules.{rules}
use lib.ListN.{length, length-map}
use mathlib.Core.List.{map}
use native.Mathlib.Omega.{arith}
use Rattle.definitions.specs.Alleles.{capital}
use Rattle.kv_text.proofs.Fields.{field_within}
use Rattle.reverse_trim.proofs.ClipCount.{ClipLeft, clip_done, clip_more, clip_start, over_none}
use Rattle.reverse_trim.proofs.common_clip.Given as goal

abbrev pub invariant-loop-clip : goal.invariant-loop-clip
invariant-loop-clip l = ClipLeft (map capital l.reference) l.alts l.clip l.at

abbrev pub decreases-loop-clip : goal.decreases-loop-clip
decreases-loop-clip l = length l.alts - l.at
