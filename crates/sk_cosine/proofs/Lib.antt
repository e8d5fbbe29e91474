pub mod Bounds
pub mod BracketLemmas
pub mod Near
pub mod Exact
pub mod Law
pub mod Falling
