pub mod Hosting
pub mod HostedSteps
