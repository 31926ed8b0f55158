pub mod Script
pub mod ScriptRead
pub mod ReplyText
