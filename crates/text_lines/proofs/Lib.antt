pub mod Eights
pub mod PageLaws
