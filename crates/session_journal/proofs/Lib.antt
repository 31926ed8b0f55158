pub mod Growing
pub mod FrameLaws
pub mod ChangeCodec
pub mod JournalLaws
pub mod StoredLaws
pub mod ReadingLaws
pub mod HeadLaws
pub mod KeeperLaws
mod FoundingLaws
