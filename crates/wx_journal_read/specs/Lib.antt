pub mod Reading
pub mod Fits
pub mod Faults
pub mod Grammar
pub mod Whole
pub mod Gives
