pub mod TopicLaws
