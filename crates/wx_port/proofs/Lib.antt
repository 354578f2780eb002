pub mod SoundLemmas
pub mod NumbersLater
pub mod OwnLater
pub mod TableLater
pub mod SoundLater
pub mod LeavingLater
pub mod SearchLater
pub mod KeptLater
