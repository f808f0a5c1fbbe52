-- Runs, and the traces of scripts.
pub mod Untaken
pub mod Scripts
pub mod Gets
