pub mod Readers
pub mod Items
pub mod Bodies
pub mod Written
pub mod ItemTrees
pub use Rattle.wire_spec.specs.Bodies as WireBodies
pub use Rattle.wire_spec.specs.Bytes
pub use Rattle.wire_spec.specs.Fails
pub use Rattle.wire_spec.specs.Reading
pub use Rattle.wire_spec.specs.Spells
