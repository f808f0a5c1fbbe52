-- The form `twin`.
pub mod Ends
