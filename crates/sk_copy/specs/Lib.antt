pub mod Order
pub mod OrderLaws
pub mod Extended
pub mod Wanted
pub mod Copies
pub mod Known
pub mod Laws
pub mod Examples
