pub mod QuietDesks
