mod Steps
pub mod Sources
pub mod Receipts
