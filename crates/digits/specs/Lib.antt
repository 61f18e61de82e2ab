-- What a put leaves, a set as text, and the laws that the proofs cite.
pub mod Put
pub mod PutLaws
pub mod DigitLaws
pub mod SetText
pub mod SetLaws
