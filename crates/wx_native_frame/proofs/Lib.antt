pub mod Small
pub mod Lengths
pub mod FrameLaws
pub mod Empty
pub mod StepLaws
pub mod ReaderLaws
pub mod SplitLaws
