pub mod PumpLemmas
pub mod HalfLemmas
pub mod PumpInLemmas
pub mod PumpOutLemmas
pub mod PaceLemmas
