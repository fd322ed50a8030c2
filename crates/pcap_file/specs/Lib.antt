pub mod Taken
pub mod PcapAnswers
pub mod PcapFaults
pub mod PcapSteps
