pub mod Each
pub mod MeterLines
pub mod SourceHomes
pub mod MeterReads
