-- A permission that is kept is there.
pub mod Itself
