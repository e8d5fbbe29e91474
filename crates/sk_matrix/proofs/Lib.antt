pub mod SumLemmas
pub mod ProductLemmas
