pub mod Composing
pub mod PlanLaws
pub mod ReadLaws
