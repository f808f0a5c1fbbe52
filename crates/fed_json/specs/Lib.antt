pub mod Value
pub mod Values
pub mod Begun
