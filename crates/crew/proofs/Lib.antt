-- Laws that stand on this crate's definitions.
pub mod Lowest
pub mod Laws
