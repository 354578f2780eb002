pub mod WebUrlLemmas
pub mod Vectors
pub mod PathLemmas
