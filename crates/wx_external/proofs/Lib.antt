pub mod MatchLemmas
pub mod WorldLemmas
