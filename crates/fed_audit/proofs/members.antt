pub mod Found
pub mod Kinds
