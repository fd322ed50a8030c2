pub mod Outlets
