pub mod Outcome
pub mod Files
pub mod Taken
pub mod Calls
pub mod TakenLaws
pub mod Mem
