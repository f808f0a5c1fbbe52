-- Scripts that differ in cookies alone, or in one token.
pub mod Jars
pub mod Tokens
