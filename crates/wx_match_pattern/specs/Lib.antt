pub mod Answers
pub mod Faults
pub mod Globs
pub mod Meets
pub mod Pattern
pub mod Reading
pub mod Run
pub mod View
