pub mod PacketFronts
pub mod Headers
pub mod Begins
pub mod PacketFaults
pub mod PcapSteps
