pub mod AddedPlaces
pub mod ContigSites
pub mod ContigWindows
pub mod Fills
pub mod InRange
pub mod OneWindow
