-- The texts of JSON that is UTF-8 are UTF-8.
pub mod Strings
pub mod Tokens
pub mod Values
