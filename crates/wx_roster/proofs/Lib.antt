pub mod Filters
pub mod PlacesLater
pub mod MembersLater
pub mod Reached
