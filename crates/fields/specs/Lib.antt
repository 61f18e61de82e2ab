pub mod Spans
pub mod SpanLaws
pub mod CutLaws
pub mod NumberLaws
pub mod ValueLaws
pub mod Recorded
pub mod KindLaws
