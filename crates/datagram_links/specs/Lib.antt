pub mod Links
pub mod Clocks
pub mod Receivers
pub mod Memory
