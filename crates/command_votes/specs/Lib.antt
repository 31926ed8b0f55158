pub mod VoteRead
pub mod VotesText
pub mod VoteForm
