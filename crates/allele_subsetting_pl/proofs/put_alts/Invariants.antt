-- The first ALT, then in each turn a comma and an ALT: the ALTs from a place on are left, each behind a comma.
use lib.ListN.{drop}
use mathlib.Core.List.{List}
use Prim.Native.Nat.{ℕ}
use Rattle.allele_subsetting_pl.specs.KeepLists.{alt_with}
use Rattle.definitions.specs.Bytes.{comma}
use Rattle.kv_write.proofs.Joined.{each_after}
use Rattle.kv_write.proofs.Laying.{Left}
use Rattle.allele_subsetting_pl.proofs.put_alts.Given as goal

unfoldable pub behind : List ℕ → List ℕ → List ℕ
behind alts = each_after comma (alt_with alts)

abbrev pub invariant-loop-number : goal.invariant-loop-number
invariant-loop-number l = Left l.initial.out l.initial.next (behind l.alts l.rest) l.out l.next (behind l.alts (drop l.number-index l.rest))
