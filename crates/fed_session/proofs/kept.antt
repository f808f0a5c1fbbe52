-- What a session keeps of pages and calls.
pub mod Calls
pub mod Held
pub mod Loaded
pub mod Waiting
pub mod Tables
