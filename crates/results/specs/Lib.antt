-- What a pair offers, what a row keeps, and the laws that the proofs cite.
pub mod Prices
pub mod Kept
pub mod Rates
pub mod Order
pub mod PriceLaws
