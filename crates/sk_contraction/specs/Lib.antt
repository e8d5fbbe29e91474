pub mod Rest
pub mod Farthest
pub mod Contracting
pub mod Contraction
pub mod Laws
