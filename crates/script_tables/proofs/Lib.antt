pub mod ListTests
pub mod Owners
pub mod OfKind
pub mod OfLines
mod Accepted
mod Asked
mod Follows
pub mod Steps
pub mod GoesOn
mod SetRows
mod Forms
mod Grow
pub mod FindSubs
pub mod OneHome
pub mod NewestBoots
