pub use Rattle.data_format.specs.Addresses
pub use Rattle.byte_ends.specs.Seen
pub use Rattle.wire_spec.specs.Texts
pub mod Bytes
pub mod Pages
pub mod Pieces
