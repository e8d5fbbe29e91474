pub mod TextLemmas
pub mod DrawnLemmas
pub mod SpanLemmas
