-- The laws of printed and pending records that the code of the combining loop cites.
pub mod SamePrinted
pub mod DerivedData
pub mod Lengths
pub mod Coalescing
pub mod Walking
