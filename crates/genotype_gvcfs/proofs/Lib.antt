pub mod LaidRecord
pub mod Walking
pub mod WrittenCalled
pub mod ReadHeader
