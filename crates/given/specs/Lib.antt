pub mod Spans
pub mod Numbers
pub mod SpanRules
