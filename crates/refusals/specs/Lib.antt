-- The checks in groups, and the laws that the proofs cite.
pub mod Checks
pub mod CheckLaws
