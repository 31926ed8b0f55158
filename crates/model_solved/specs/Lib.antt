pub mod Builtins
pub mod Scopes
pub mod Faults
pub mod SolvedTree
pub mod SolvedView
pub mod Resolution
pub mod Methods
pub mod Founding
