pub mod VotePayload
