pub mod Trims
mod Closing
mod BootSteps
pub mod GenerationCounts
pub mod NumberSteps
mod Values
mod FlowSteps
