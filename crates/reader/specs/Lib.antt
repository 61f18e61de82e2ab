pub mod Lists
pub mod Records
pub mod StoreLaws
pub mod ReadLaws
pub mod LoopLaws
