pub mod Journals
pub mod Meets
pub mod Slots
pub mod Turns
