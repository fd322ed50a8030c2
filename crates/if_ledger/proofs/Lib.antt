mod Counters
mod Entering
pub mod Runs
pub mod Shown
pub mod Marked
