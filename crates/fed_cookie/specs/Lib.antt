pub mod Bytes
pub mod Date
pub mod Matches
pub mod SetCookie
pub mod Fields
