-- A missing END stays missing.
use borrow.Author.Rules.{rules}
use mathlib.Core.Path.{◌≡◌}
use Rattle.std.specs.Option.{MatchOption, IsSomeAnd}
use Rattle.std.specs.Prelude as std
use Rattle.answers.specs.Options.{option_of}
use Rattle.bio_ids.specs.declared.GenomePosition.{GenomePosition}
use Rattle.definitions.specs.Bytes.{text}
use Rattle.definitions.specs.Lines.{key_of}
use Rattle.list_reader.specs.RecordGroups.{end_option}
use Prim.Native.Nat.{ℕ}
use Rattle.list_reader.proofs.end_line.Goals as goal

-- an option whose value became a position
as_position : (o : std.Option ℕ) (r : std.Option GenomePosition) {Q : ℕ → GenomePosition → Type 0} → ((n : ℕ) (p : GenomePosition) → Q n p → p.0 ≡ n)
    → MatchOption o (r ≡ std.None) (λ n. IsSomeAnd r (Q n)) → end_option r ≡ option_of o
as_position std.None r q h = rw h
as_position (std.Some n) std.None q h = absurd h
as_position (std.Some n) (std.Some p) q h = rw (q n p h)

pub returns-in_err-number : goal.returns-in_err-number
unfolding key_of text
returns-in_err-number c = rw c.from_residual.ensures c.in_err-number.ensures

pub returns : goal.returns
unfolding key_of text
returns c = rw (as_position c.in_ok-number.number c.map-end.result (λ n p h. search rules) c.map-end.ensures.cases) c.in_ok-number.ensures
