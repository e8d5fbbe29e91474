pub mod Search
pub mod Results
pub mod Held
pub mod SearchLaws
pub mod Searched
pub mod Examples
