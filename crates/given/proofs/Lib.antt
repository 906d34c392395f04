pub mod FitsLaws
pub mod SpanRules
