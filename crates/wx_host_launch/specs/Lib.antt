pub mod Pipes
pub mod Records
pub mod Steps
pub mod Reading
pub mod Halves
pub mod Turns
pub mod Memory
