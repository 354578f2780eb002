pub mod State
pub mod Steps
pub mod Tables
pub mod Views
pub mod Told
pub mod Calm
