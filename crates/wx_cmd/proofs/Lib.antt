pub mod TellLemmas
pub mod EndLemmas
pub mod JudgeLemmas
pub mod CompleteLemmas
