pub mod VoteBook
pub mod Tallies
pub mod Counted
pub mod Laws
