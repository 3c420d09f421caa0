pub mod Engines
pub mod SpanOf
