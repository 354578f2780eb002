mod ReportsLater
mod Places
mod Counts
