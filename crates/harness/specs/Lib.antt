-- What `plan_columns` promises, and the laws that it is proved by.
pub mod Columns
pub mod ColumnLaws
