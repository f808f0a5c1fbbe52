-- Texts as serde_json reads them, read from left to right.
pub mod Number
pub mod Steps
