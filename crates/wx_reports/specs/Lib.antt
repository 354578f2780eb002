pub mod Reports
pub mod Places
pub mod Rows
pub mod Counts
