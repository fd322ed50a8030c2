pub mod Lists
pub mod Kept
pub mod Lawful
pub mod Shown
pub mod Read
pub mod Headers
pub mod InTime
pub mod DeliveredPlaces
pub mod CountedHeaders
pub mod AccountHeaders
pub mod InTimeCounts
pub mod HeaderCounts
pub mod HeadersReceived
pub mod MadeAccepted
mod ScriptWords
mod ScriptRoom
mod ScriptAccepted
