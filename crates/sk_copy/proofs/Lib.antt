pub mod Listing
pub mod Apart
pub mod Extended
pub mod Making
pub mod Rising
pub mod Apartness
