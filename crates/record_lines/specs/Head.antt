-- The lines of a record before its samples.
use Rattle.std.specs.Prelude.{◌+◌, ◌<◌, ◌^◌, ◌≤◌, ℕ, ltb, length, List, ◌++◌}
use Rattle.std.proofs.Math.Option.{Option}
use Rattle.definitions.specs.Lines.{line}
use Rattle.definitions.specs.Lists.{only_if}
use Rattle.definitions.specs.Numbers.{decimal, max_number, written_or_missing}

-- END: the last position, if it is past the first
abbrev pub end_from : ℕ → ℕ → Option ℕ
end_from first last = only_if (ltb first last) last

-- contig, POS and END
abbrev pub place_of : List ℕ → ℕ → ℕ → List ℕ
place_of contig first last =
    line "contig" contig ++ line "pos" (decimal first) ++ line "end" (written_or_missing decimal (end_from first last))

-- contig, POS, END, REF and the ALTs, which are text with commas; with the samples' lines behind them it is the record that is
-- printed (`printed_record_lem` of proofs/Head.antt)
unfoldable pub head_of : List ℕ → ℕ → ℕ → List ℕ → List ℕ → List ℕ
head_of contig first last ref alts = place_of contig first last ++ line "ref" ref ++ line "alt" alts

-- what `put_place` asks: positions as a file has them, and the offset behind the lines fits a usize
pub record PlaceFits (contig : List ℕ) (first last at : ℕ) : Type 0 where
  pub pos : first ≤ max_number
  pub end : last ≤ max_number
  pub fits : at + length (place_of contig first last) < 2 ^ 64

-- what `put_record_head` asks: positions as a file has them, and the offset behind the lines fits a usize
pub record HeadFits (contig : List ℕ) (first last : ℕ) (ref alts : List ℕ) (at : ℕ) : Type 0 where
  pub pos : first ≤ max_number
  pub end : last ≤ max_number
  pub fits : at + length (head_of contig first last ref alts) < 2 ^ 64
