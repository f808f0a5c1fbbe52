-- The forms that read their source whole.
pub mod Ends
pub mod Sources
