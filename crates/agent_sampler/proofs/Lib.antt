pub mod Between
pub mod Follows
