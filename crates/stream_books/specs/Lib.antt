pub mod Streams
pub mod Receipts
pub mod Sources
