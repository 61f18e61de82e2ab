-- Writing the rows of all sizes in one walk, and the laws that the proofs cite.
pub mod Fill
pub mod FillLaws
