pub mod Tame
pub mod Back
