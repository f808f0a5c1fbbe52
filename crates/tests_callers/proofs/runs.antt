-- A session takes the events of a script.
pub mod Runs
