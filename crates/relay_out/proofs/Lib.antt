mod Places
mod Steps
pub mod Followed
pub mod Served
mod RouteLists
mod Cuts
mod Below
mod LineTexts
mod Arrivals
mod Misses
mod Joined
