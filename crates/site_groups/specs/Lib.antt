pub mod SiteGroups
