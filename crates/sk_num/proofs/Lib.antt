pub mod EndsLemmas
pub mod RootLemmas
pub mod Capped
pub mod Weights
