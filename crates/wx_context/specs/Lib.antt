pub mod Paths
pub mod Senders
pub mod WebUrls
