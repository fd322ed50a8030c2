pub mod Packets
pub mod Setups
pub mod Runs
pub mod Scripts
