pub mod Keys
pub mod ExtensionManifests
pub mod IdEntries
