pub mod ReflectedSteps
pub mod KeptSteps
