-- Memo order as a number, and the laws that the planner's proofs cite.
pub mod Order
pub mod Laws
