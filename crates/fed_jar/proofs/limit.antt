pub mod Limit
pub mod Most
