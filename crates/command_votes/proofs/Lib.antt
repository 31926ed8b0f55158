pub mod Items
pub mod Counting
pub mod Form
