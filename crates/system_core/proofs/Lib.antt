pub mod TimelyFrames
pub mod Members
pub mod PartSteps
pub mod WholeReplicas
pub mod PartTakes
pub mod PartTurns
pub mod PartJoins
pub mod Runs
