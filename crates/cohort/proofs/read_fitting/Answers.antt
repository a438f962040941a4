-- The header, then the sites; there is room for the header.
use Rattle.site_groups.proofs.Refusals.{err_is}
use Rattle.cohort.proofs.Whole.{all_read, header_fail, names_count, sites_fail, sites_said, too_long_lem, too_long_answer}
use Rattle.cohort.specs.Cohort.{CohortFitting, SitesRead}
use Rattle.sample_names.specs.Header.{Header}
use Rattle.cohort.proofs.read_fitting.Goals as goal

pub returns-then-s-gt16777216 : goal.returns-then-s-gt16777216
unfolding CohortFitting
returns-then-s-gt16777216 c = record { answer = too_long_answer _ _ _ c.if-s-gt16777216.true; tables = too_long_lem _ c.if-s-gt16777216.true }

pub returns-in_err-header : goal.returns-in_err-header
returns-in_err-header c =
    let f = header_fail _ c.if-s-gt16777216.false _ _ _ c.args.rows.now _ c.requires c.in_err-header.ensures in
    rw (err_is _ _ c.from_residual.ensures.1) (record { answer = f.0; tables = f.1 })

pub returns-in_err-sites : goal.returns-in_err-sites
unfolding Header
returns-in_err-sites c =
    let h = c.in_ok-header.ensures in
    let r = c.in_err-sites.ensures in
    let f = sites_fail _ c.if-s-gt16777216.false _ _ _ h.value h.behind c.args.names.now _ _ _ r.answer r.table in
    rw (err_is _ _ c.from_residual-in_err-sites.ensures.1) (record { answer = f.0; tables = f.1 })

pub returns : goal.returns
unfolding CohortFitting Header SitesRead
returns c = let h = c.in_ok-header.ensures in
    let both = c.in_ok-sites.ensures in
    let r = both.table in
    record {
      answer = sites_said _ c.if-s-gt16777216.false _ _ _ h.value h.behind _ _ (both.answer _ (names_count _ _ _));
      tables = record {
        room = record { for_names = c.requires; for_rows = r.room };
        value = all_read _ c.if-s-gt16777216.false _ _ _ h.value h.behind _ (r.value _ (names_count _ _ _));
        table = r.table;
        some_sample = h.not_none;
        few_samples = h.few;
        few_sites = r.few;
        names_rest = h.rest;
        rows_rest = r.rest;
      };
    }
