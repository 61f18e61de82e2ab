-- Places among a group's candidates, the search from a place on, and the laws that the proofs cite.
pub mod Joinable
pub mod Places
pub mod LeftLaws
pub mod PlaceLaws
pub mod SpanLaws
pub mod LeafLaws
pub mod GroundLaws
pub mod FindLaws
pub mod UniqueLaws
