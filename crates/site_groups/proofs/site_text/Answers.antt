-- The three parts of the group, each behind the one before it.
use Rattle.site_groups.proofs.SiteLines.{none_stored, text_read}
use Rattle.site_groups.specs.SiteGroups.{AlleleLinesRead, PlaceRead, TextRead, ValuesRead}
use Rattle.site_groups.proofs.site_text.Goals as goal

pub returns-in_err-place : goal.returns-in_err-place
unfolding PlaceRead TextRead
returns-in_err-place c = rw c.from_residual.ensures (c.in_err-place.ensures, (none_stored _, none_stored _))

pub returns-in_err-alleles : goal.returns-in_err-alleles
unfolding AlleleLinesRead PlaceRead TextRead
returns-in_err-alleles c = rw c.from_residual-in_err-alleles.ensures
    (c.in_err-alleles.ensures _ c.in_ok-place.ensures.behind, (none_stored _, none_stored _))

pub returns-in_err-values : goal.returns-in_err-values
unfolding AlleleLinesRead PlaceRead TextRead ValuesRead
returns-in_err-values c = let alleles = c.in_ok-alleles.ensures _ c.in_ok-place.ensures.behind in
    rw c.from_residual-in_err-values.ensures (c.in_err-values.ensures.0 _ alleles.behind, c.in_err-values.ensures.1)

pub returns : goal.returns
unfolding AlleleLinesRead PlaceRead ValuesRead
returns c = let alleles = c.in_ok-alleles.ensures _ c.in_ok-place.ensures.behind in
    (text_read _ _ _ _ _ c.in_ok-place.ensures alleles (c.in_ok-values.ensures.0 _ alleles.behind), c.in_ok-values.ensures.1)
