pub mod WordLaws
pub mod ScriptLaws
