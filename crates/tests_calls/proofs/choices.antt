-- Choices among several accounts.
pub mod Several
