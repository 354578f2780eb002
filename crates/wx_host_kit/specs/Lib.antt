pub mod Kit
pub mod Serving
pub mod Calls
pub mod Echoes
pub mod Ends
