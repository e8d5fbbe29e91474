pub mod LineRows
pub mod Examples
