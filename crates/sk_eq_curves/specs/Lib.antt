pub mod CurveRows
pub mod Examples
