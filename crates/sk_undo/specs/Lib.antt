pub mod Changes
pub mod Histories
pub mod ChangeLaws
pub mod Examples
