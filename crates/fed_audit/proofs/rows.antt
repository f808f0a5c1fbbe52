-- The rows of a script are compared one after the other.
pub mod Steps
pub mod Ways
pub mod Met
pub mod Lines
