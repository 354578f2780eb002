pub mod Pumps
pub mod Serving
pub mod Workers
pub mod Paces
