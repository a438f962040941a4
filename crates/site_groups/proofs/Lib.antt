pub mod Refusals
pub mod SiteChecks
pub mod SiteLines
