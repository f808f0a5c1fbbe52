-- What a line writer writes.
pub mod Tokens
pub mod Members
