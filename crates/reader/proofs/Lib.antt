-- Laws that stand on this crate's definitions.
pub mod Laws
pub mod Unique
