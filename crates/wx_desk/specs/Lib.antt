pub mod History
pub mod Desks
pub mod BrokerDesks
