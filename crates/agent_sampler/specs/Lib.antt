pub mod Skips
pub mod Sampling
pub mod Fields
pub mod Following
