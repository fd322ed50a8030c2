mod Partway
pub mod Feedings
pub mod Passings
pub mod ClassCounts
mod Waiting
mod Greatest
