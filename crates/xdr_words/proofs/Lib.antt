pub mod Said
pub mod Puts
pub mod Runs
