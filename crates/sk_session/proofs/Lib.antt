pub mod Everyone
pub mod Faults
pub mod Groups
pub mod Opened
