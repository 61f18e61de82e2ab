-- How the memo's rows are walked and counted, and the laws that the proofs cite.
pub mod Sizes
pub mod WalkLaws
pub mod Tally
pub mod FoundLaws
pub mod TallyLaws
