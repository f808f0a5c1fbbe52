-- A cause is followed by a request for the token.
pub mod Settling
pub mod Itself
pub mod Tracks
pub mod Acts
