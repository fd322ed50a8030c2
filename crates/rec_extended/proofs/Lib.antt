pub mod Bodies
pub mod ListRanges
