-- Two jars, and one token.
pub mod Jars
pub mod Tokens
