pub mod Lists
pub mod NameLaws
pub mod NumberLaws
pub mod LiteralLaws
pub mod SymbolLaws
pub mod Complete
pub mod Sound
pub mod Steps
