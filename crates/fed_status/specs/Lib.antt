pub mod Flags
pub mod Kept
pub mod Login
pub mod Names
pub mod Pairs
pub mod Shared
pub mod Table
