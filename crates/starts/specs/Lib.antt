-- Where each size begins, and the laws that the proofs cite.
pub mod Starts
pub mod CountLaws
