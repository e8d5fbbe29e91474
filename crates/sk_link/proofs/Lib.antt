pub mod Tried
pub mod Replied
pub mod Rising
pub mod KeyPlaces
pub mod LastCounts
