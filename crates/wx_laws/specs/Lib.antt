pub mod Legal
pub mod Earlier
pub mod Prefix
pub mod RefusalLaw
pub mod SettlementLaw
pub mod ClosingLaw
pub mod PrefixLaw
pub mod Keeping
