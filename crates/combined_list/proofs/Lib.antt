pub mod OneContig
pub mod AllContigs
pub mod WrittenList
pub mod ListReady
