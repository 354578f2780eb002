pub mod ContextLemmas
pub mod HostNameLemmas
pub mod IdLemmas
pub mod OptionLemmas
pub mod ListLemmas
pub mod ByContextLemmas
