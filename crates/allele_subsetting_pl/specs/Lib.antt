pub mod KeepLists
pub mod UnusedAlts
