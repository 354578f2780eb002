pub mod Frames
pub mod Splits
pub mod Head
pub mod Reader
