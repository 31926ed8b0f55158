pub mod Topics
pub mod TopicCode
