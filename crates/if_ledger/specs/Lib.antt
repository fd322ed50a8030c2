pub mod Records
pub mod Counters
pub mod Ledgers
pub mod Fields
pub mod Boots
pub mod Tables
