-- A run that is fed in pieces.
pub mod Fed
