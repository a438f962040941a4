pub mod Adding
pub mod Listing
pub mod Letters
pub mod Turns
pub mod SpanDel
pub mod Ends
pub mod Sound
