-- What laying out means, and the laws that the proofs cite.
pub mod Layout
pub mod LayoutLaws
