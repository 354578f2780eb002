pub mod WordLists
pub mod Walks
pub mod Counts
pub mod RunCounts
