pub mod History
pub mod Works
pub mod Entries
pub mod Turns
pub mod Rule
pub mod Steps
pub mod Seats
