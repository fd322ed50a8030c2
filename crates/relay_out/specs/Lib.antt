pub mod Routes
pub mod Spelled
pub mod Relays
pub mod Runs
pub mod RunRows
pub mod Lines
