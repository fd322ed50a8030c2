pub mod Accepted
pub mod Readers
pub mod PacketHeaders
pub mod AccountHeaders
pub mod Rows
pub mod WholeRows
pub mod WholeEntries
pub mod HeaderRows
