mod ManyDraws
mod Going
mod Skips
mod Kept
mod Accepted
pub mod Telling
pub mod Counting
pub mod Scripting
