-- Closing a page.
pub mod Counts
pub mod Turns
