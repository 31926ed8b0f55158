pub mod JsonOf
pub mod ReadAs
