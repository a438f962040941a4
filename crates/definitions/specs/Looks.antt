-- How many sites the search for covering sites looks at, along a contig: for planning a board.
use Rattle.std.specs.Prelude.{◌*◌, ℕ, length, List}
use Rattle.definitions.specs.Checked.{Checked, ◌>>=◌, ◌>>◌, accepted}
use Rattle.definitions.specs.CombinedList.{Input, Texts, combined_records, input_of}
use Rattle.definitions.specs.Intervals.{clipped_intervals, sites_on}

-- the looks of a contig: all its sites, for each of its intervals that lies in the clip, with a record or without
unfoldable pub contig_looks : Input → List ℕ → ℕ
contig_looks x contig = length (clipped_intervals x.cohort.sites x.clip contig) * length (sites_on contig x.cohort.sites)

-- The figure of a call with this much scratch, or the row that refuses it: every row that refuses the list, but 14.
unfoldable pub looks_of : Texts → ℕ → List ℕ → Checked ℕ
looks_of t scratch_length contig = do
  x ← input_of t
  combined_records x scratch_length
  accepted (contig_looks x contig)
