pub mod PlainLaws
pub mod Fields
pub mod KnownFits
