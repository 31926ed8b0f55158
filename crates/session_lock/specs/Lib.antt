pub mod Trusts
pub mod History
pub mod Numbers
pub mod Keeping
pub mod Rules
pub mod Steps
pub mod Passes
