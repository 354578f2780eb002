pub mod Places
pub mod TreeLemmas
