-- What a turn is, how the memo stands between turns, and the theorems of a group.
pub mod Index
pub mod Standing
pub mod Taken
pub mod QueueLaws
pub mod StandingLaws
pub mod StepLaws
pub mod StartLaws
pub mod UniqueLaws
