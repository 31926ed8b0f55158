pub mod Tree
pub mod TreeView
pub mod Bounds
pub mod Grammar
pub mod Names
pub mod Program
