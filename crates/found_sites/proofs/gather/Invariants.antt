-- Storing the sites from here on gives what storing all of them was to give.
use Rattle.std.proofs.Common.{◌≡◌, drop}
use lib.Seq.{sets}
use Rattle.found_sites.specs.Own.{found_list}
use Rattle.found_sites.proofs.gather.Given as goal

abbrev pub invariant-loop-i : goal.invariant-loop-i
invariant-loop-i l =
    sets l.list l.i (found_list (drop l.i l.sites) (drop l.i l.owners)) ≡ sets l.initial.list 0 (found_list l.sites l.owners)
