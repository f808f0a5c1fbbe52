pub mod seen
pub mod saved
pub mod read
