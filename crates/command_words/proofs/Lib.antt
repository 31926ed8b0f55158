pub mod PartsLaws
pub mod WordLaws
