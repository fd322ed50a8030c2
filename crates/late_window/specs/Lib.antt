pub mod Distances
pub mod Ring
pub mod Settled
pub mod States
pub mod Steps
pub mod Fields
