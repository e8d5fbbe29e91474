pub mod Lines
pub mod MadeModel
pub mod Examples
