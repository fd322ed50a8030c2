pub mod Meters
pub mod Polling
pub mod Fields
pub mod Following
