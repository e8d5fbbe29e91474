pub mod PointRows
pub mod Examples
