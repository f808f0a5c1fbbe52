-- What each call reads and leaves.
pub mod Facts
pub mod Calls
