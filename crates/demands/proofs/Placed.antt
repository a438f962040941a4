-- What the proofs of demand 3 and of two orders ask of one cohort: names that differ, and sites of its samples, none of which ends before
-- its start. It follows from `SoundCohort`.
use Prim.Native.Nat.{◌<◌, ◌≤◌}
use lib.ListN.{length}
use mathlib.Core.Bool.{true}
use mathlib.Core.Path.{◌≡◌}
use Rattle.definitions.specs.Bytes.{same_bytes}
use Rattle.definitions.specs.Cohort.{Cohort, Site}
use Rattle.definitions.specs.Lists.{all_distinct}
use Rattle.laws.proofs.Every.{Every, every_map}
use Rattle.laws.proofs.SoundInput.{SoundCohort}
use Rattle.laws.proofs.SoundRecords.{names_distinct}

pub record Placed (c : Cohort) : Type 0 where
  pub distinct : all_distinct same_bytes c.names ≡ true
  pub known : Every (λ (s : Site). s.sample < length c.names) c.sites
  pub ordered : Every (λ (s : Site). s.start ≤ s.end) c.sites

pub placed : {c : Cohort} → SoundCohort c → Placed c
placed s = record {
  distinct = names_distinct s.names.sound;
  known = s.known;
  ordered = every_map (λ t h. h.ordered) s.sites;
}
