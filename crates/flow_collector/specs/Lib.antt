pub mod Items
pub mod Shown
pub mod Interfaces
pub mod Collectors
pub mod Steps
pub mod Refusals
pub mod Headers
pub mod Gathering
