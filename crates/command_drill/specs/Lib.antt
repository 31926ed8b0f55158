pub mod DrilledSteps
