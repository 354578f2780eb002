pub mod Port
pub mod Numbers
pub mod Table
