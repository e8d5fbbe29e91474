pub mod Block
pub mod ReportText
pub mod BlockLaws
pub mod StandsFor
pub mod Reached
pub mod Examples
