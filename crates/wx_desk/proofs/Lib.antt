pub mod TextLemmas
pub mod HistoryLemmas
pub mod OverLemmas
