-- The table of workers with the counts, whose turn it is, and the log.
pub mod Workers
pub mod Whose
pub mod Logs
pub mod Lent
