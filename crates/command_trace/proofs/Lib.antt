pub mod StepLaws
pub mod LogLaws
pub mod ReplayLaws
