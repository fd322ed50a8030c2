pub mod Ids
pub mod Faults
pub mod Lists
