pub mod Outcomes
pub mod Walks
