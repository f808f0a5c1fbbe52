-- Replies that are taken, and those that are not.
pub mod Heard
