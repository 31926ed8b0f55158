pub mod EventLaws
pub mod ScriptLaws
