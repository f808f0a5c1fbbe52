-- Runs of bytes that pass a test, by vectors.
pub mod Runs
pub mod Lanes
pub mod Written
