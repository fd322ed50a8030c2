pub mod Bodies
pub mod Slices
