pub mod WorkLemmas
pub mod SeatLemmas
