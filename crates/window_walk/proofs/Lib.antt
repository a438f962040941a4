pub mod OnePlace
pub mod OneWindow
pub mod AllWindows
pub mod ContigWindows
