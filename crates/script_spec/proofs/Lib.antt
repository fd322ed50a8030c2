mod Walks
pub mod NextLines
