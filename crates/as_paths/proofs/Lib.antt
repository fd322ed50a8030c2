pub mod Arrays
pub mod WordRuns
pub mod Paths
pub mod OnePath
pub mod WordSpellings
