pub mod Status
pub mod Lines
pub mod Manifests
pub mod Changes
pub mod Told
