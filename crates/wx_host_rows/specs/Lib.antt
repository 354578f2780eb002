pub mod TestDesks
