pub mod CubicRows
pub mod CubicViews
pub mod CurvePoint
pub mod CurveLaws
pub mod Examples
