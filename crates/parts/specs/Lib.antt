-- Tables' parts of an estimate, and the laws that the proofs cite.
pub mod Parts
pub mod PartLaws
