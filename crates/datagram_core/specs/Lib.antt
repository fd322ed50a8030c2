pub mod Heads
pub mod Tables
pub mod Trees
pub mod Kinds
pub mod Samples
pub mod SampleHeads
pub mod Descriptions
pub mod Records
pub mod Ranges
pub mod Parts
pub mod Written
pub mod Writers
pub use Rattle.wire_spec.specs.Heads as WireHeads
