pub mod ScriptText
pub mod Files
pub mod Calls
