-- By whether the output is long enough.
use Prim.Native.Nat.{◌<◌, ◌^◌, ◌≤◌, ℕ}
use borrow.Author.Rules.{rules}
use lib.ListN.{get_or, length, length-map}
use mathlib.Core.List.{map}
use mathlib.Core.Path.{◌∙◌, refl, sym}
use native.Mathlib.Omega.{arith}
use Rattle.answers.proofs.Answers.{answered_refused, answered_written, is_within, not_within}
use Rattle.definitions.specs.Likelihoods.{log10_from_pl}
use Rattle.kv_write.proofs.Laying.{sets_front}
use Rattle.likelihoods.proofs.NearTenths.{near_each, near_none}
use Rattle.likelihoods.proofs.log10_likelihoods_from_pl.Goals as goal

pub returns-then-out-count : goal.returns-then-out-count
returns-then-out-count c = let args = c.args in
    let pl = args.pl.now in
    record { answered = answered_refused (not_within (map log10_from_pl pl) (omega (arith, length-map pl log10_from_pl))) refl; near = near_none pl args.out.now }

pub returns : goal.returns
returns c = let pl = c.args.pl.now in
    let out = c.args.out.now in
    let values = map log10_from_pl pl in
    let room : length values ≤ length out = omega (arith, length-map pl log10_from_pl, c.if-out-count.false) in
    let stored = c.put_log10_from_pl.ensures ∙ sets_front out values room in
    let small : (k : ℕ) → get_or pl k 0 < 2 ^ 32 = λ k. omega (arith, c.type_inv.pl k) in
    record { answered = answered_written (is_within values room) (sym (length-map pl log10_from_pl)) stored; near = rw stored (near_each pl _ small) }
