pub mod Fronts
pub mod Lists
pub mod Series
pub mod Places
pub mod Apart
