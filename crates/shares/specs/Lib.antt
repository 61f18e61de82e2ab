-- A worker's share of a group's candidates, its place among them, and the laws that the proofs cite.
pub mod Nowhere
pub mod Shares
pub mod ShareLaws
