pub mod Arrays
pub mod WordLists
pub mod Paths
