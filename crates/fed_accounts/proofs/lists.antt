-- Values and lists of entries.
pub mod Kinds
pub mod Stops
pub mod Texts
