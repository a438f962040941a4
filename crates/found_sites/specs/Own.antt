-- Sites with their samples, and the entries of samples, each the row of the sample's own site.
use Rattle.std.specs.Prelude.{suc, ℕ, eqb, set}
use mathlib.Core.List.{List, [], ◌∷◌, foldr}
use Rattle.std.proofs.Math.Option.{Option, get_or, map}
use Rattle.definitions.specs.Lists.{first_where}
use Rattle.found_sites.specs.declared.Found.{Found}

-- a site by its row, with its sample
abbrev pub found_at : ℕ → ℕ → Found
found_at row sample = record { sample = record { 0 = sample }; row = row }

-- some sites, each with its sample
unfoldable pub found_list : List ℕ → List ℕ → List Found
found_list [] owners = []
found_list (row ∷ sites) [] = []
found_list (row ∷ sites) (sample ∷ owners) = found_at row sample ∷ found_list sites owners

-- the row stored as its sample's entry, if the sample has one
unfoldable pub put_own : Found → List ℕ → List ℕ
put_own found own = set own found.sample.0 found.row

-- all of a list stored, the last one first
unfoldable pub put_all : List Found → List ℕ → List ℕ
put_all list own = foldr put_own own list

-- the row of the first of some sites that is the sample's
abbrev pub own_row : List Found → ℕ → Option ℕ
own_row list sample = map (λ (f : Found). f.row) (first_where (λ (f : Found). eqb f.sample.0 sample) list)

-- that row for each entry from that of a sample on, or what stood there if the sample has none
unfoldable pub own_rows : List Found → ℕ → List ℕ → List ℕ
own_rows list first [] = []
own_rows list first (number ∷ own) = get_or (own_row list first) number ∷ own_rows list (suc first) own
