pub mod Heard
pub mod Reach
pub mod Table
pub mod Tabs
pub mod Worked
