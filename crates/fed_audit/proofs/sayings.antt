-- What requests say.
pub mod Sayings
pub mod Firsts
pub mod Names
