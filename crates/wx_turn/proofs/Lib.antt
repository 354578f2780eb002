pub mod Histories
pub mod Numbers
pub mod TurnSteps
pub mod SeatSteps
