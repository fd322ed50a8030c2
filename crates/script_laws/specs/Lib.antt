pub mod Written
pub mod Lawful
pub mod Given
pub mod SoFar
