pub mod Plane
pub mod Spans
pub mod Bulge
pub mod Shapes
pub mod Lines
pub mod Drawing
pub mod DrawingLaws
pub mod Examples
