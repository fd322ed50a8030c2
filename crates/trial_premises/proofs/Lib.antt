mod Slots
pub mod Numbers
mod BootSteps
mod WindowSteps
pub mod RiseAhead
mod SourceSteps
mod Pairs
mod Lists
mod StreamSteps
mod Answers
mod Ids
