-- What stands in the memo rows that are written, and the laws that the proofs cite.
pub mod Plans
pub mod LineLaws
pub mod PlanLaws
