-- Where the set of a search stands, and the laws that the proofs cite.
pub mod Search
pub mod FindLaws
pub mod SeekLaws
