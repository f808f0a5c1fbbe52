-- The calls that wait for a provider, whose login window is open.
pub mod Lists
pub mod Moves
pub mod Unmoved
pub mod Windows
pub mod Turns
