pub mod FrameLines
pub mod TellLemmas
pub mod Judgings
pub mod OneReport
pub mod OneAnswer
pub mod Completes
