-- Saving what stands at the end of a script.
pub mod Steps
