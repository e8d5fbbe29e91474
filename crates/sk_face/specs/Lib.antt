pub mod FaceRows
pub mod FaceViews
pub mod SideLaws
pub mod Examples
