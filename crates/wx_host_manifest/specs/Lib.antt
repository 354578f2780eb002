pub mod Origins
pub mod HostManifests
