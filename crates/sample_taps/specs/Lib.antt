pub mod Feeding
pub mod Counts
pub mod Classes
pub mod Briefs
pub mod Passing
pub mod BookBriefs
pub mod BookRows
pub mod Lines
