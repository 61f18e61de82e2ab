-- What opening a group means, and the laws that the proofs cite.
pub mod Opening
pub mod OpenLaws
