pub mod HeardLemmas
pub mod HostLemmas
pub mod LineLemmas
pub mod TabLemmas
