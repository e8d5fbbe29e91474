pub mod AgreedLemmas
pub mod Pasts
