-- What follows from the definitions of specs/: laws, the worked cases, and wrong planners refuted.
pub mod laws
pub mod Cases
pub mod Wrong
