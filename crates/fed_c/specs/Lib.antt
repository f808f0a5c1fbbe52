pub mod Hands
pub mod Kept
