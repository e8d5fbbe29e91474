pub mod Lines
pub mod Lent
pub mod Keys
pub mod LineLaws
