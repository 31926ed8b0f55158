pub mod PostsEnded
pub mod PostsText
