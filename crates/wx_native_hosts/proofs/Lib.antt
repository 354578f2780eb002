pub mod FoundLater
