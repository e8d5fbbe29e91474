pub mod Filled
pub mod Circles
pub mod Unknown
pub mod Unknowns
pub mod OwnHandles
