pub mod Contexts
pub mod HostNames
pub mod Ids
pub mod Options
pub mod Results
pub mod Numbers
pub mod ByContext
