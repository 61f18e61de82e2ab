-- The turns in a row, and the laws that the proofs cite.
pub mod Runs
pub mod Views
pub mod LogLaws
pub mod TallyLaws
pub mod RunLaws
pub mod SearchLaws
