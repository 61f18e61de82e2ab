-- Laws of single definitions, and in Standing what contracts of the search say. What follows from several together stands in proofs/laws.
pub mod Kinds
pub mod Bools
pub mod Lists
pub mod Sets
pub mod Tables
pub mod Copies
pub mod Connected
pub mod Decide
pub mod Choice
pub mod Shares
pub mod Candidates
pub mod Standing
pub mod Turns
pub mod Hands
pub mod Refusals
