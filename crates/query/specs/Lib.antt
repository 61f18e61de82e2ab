-- What the contracts say beside rules' definitions, and the laws that the proofs cite.
pub mod Lists
pub mod EdgeLaws
pub mod ConnectedLaws
