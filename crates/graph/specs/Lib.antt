-- Neighbour sets, a node of the walk and its questions; and the laws that the proofs cite.
pub mod Walk
pub mod ApartLaws
pub mod Near
pub mod NearLaws
pub mod NextLaws
pub mod Node
pub mod NodeLaws
