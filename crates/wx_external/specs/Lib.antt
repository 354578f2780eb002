pub mod Gate
pub mod Matching
pub mod World
pub mod Worked
