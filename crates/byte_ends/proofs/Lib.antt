pub mod Prefixes
pub mod Rooms
pub mod Filled
pub mod Unread
