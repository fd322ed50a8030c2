pub mod Tables
pub mod KeyTests
pub mod Places
pub mod Placed
pub mod StreamSteps
pub mod SourceSteps
pub mod Empties
