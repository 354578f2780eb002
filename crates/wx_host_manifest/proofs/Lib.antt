pub mod KeyLemmas
pub mod OriginLemmas
