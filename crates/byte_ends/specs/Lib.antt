pub mod Seen
pub mod Memory
pub mod Unread
