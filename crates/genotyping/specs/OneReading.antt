-- What the code holds of the PLs that it has read.
use Rattle.std.specs.Prelude.{◌<◌, ◌≤◌, min, ℕ, ltb, length, take, cond, List, ◌⊎◌, ◌≡◌}
use Rattle.definitions.specs.CalledGenotypes.{LeastPls, least_pls, with_next_pl}
use Rattle.genotyping.specs.declared.FirstPls.{FirstPls}
use Rattle.genotyping.specs.declared.LeastPls as code

-- the greatest count, that of a usize
abbrev pub most_count : ℕ
most_count = 18446744073709551615

-- the least, its count and the second, as the definitions have them
abbrev pub least_of : code.LeastPls → LeastPls
least_of t = record { least_pl = t.least; count = t.count; second = t.second }

-- the same with a count that stays at the greatest
unfoldable pub count_held : LeastPls → LeastPls
count_held t = record { least_pl = t.least_pl; count = min most_count t.count; second = t.second }

-- the three over so many PLs that all equal p
abbrev pub equal_pls : ℕ → ℕ → LeastPls
equal_pls p count = record { least_pl = p; count = count; second = 0 }

-- the step where there is a second: a PL that is not below it changes nothing
unfoldable pub with_later_pl : LeastPls → ℕ → LeastPls
with_later_pl t p = cond (ltb p t.second) (count_held (with_next_pl t p)) t

-- these are the three of the PLs before `next`, and all were read or there is a second
pub record Read (pl : List ℕ) (t : LeastPls) (next : ℕ) : Type 0 where
  pub within : next ≤ length pl
  pub three : t ≡ count_held (least_pls (take next pl))
  pub told : (length pl ≤ next) ⊎ (0 < t.second)

abbrev pub FirstRead : List ℕ → FirstPls → Type 0
FirstRead pl r = Read pl (least_of r.found) r.next
