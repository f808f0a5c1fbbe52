-- The pending calls of pages, and the calls that began.
pub mod Pending
pub mod Gets
pub mod Resumed
pub mod Windows
pub mod Begins
