pub mod HubScript
pub mod HubRun
