mod GoingLaws
pub mod SafeLaws
