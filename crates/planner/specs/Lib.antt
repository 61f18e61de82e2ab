-- What an input and an outcome are in the code's values, and the laws that planning is proved by.
pub mod Plans
pub mod PlanLaws
