-- What is read of effects.
pub mod Seen
