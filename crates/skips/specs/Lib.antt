-- Rows of one size in a list of sets, the cells of a skip vector, and the laws that the proofs cite.
pub mod SizeRows
pub mod Vectors
pub mod VectorLaws
