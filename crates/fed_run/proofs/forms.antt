-- The words of the command line, and the form `make`.
pub mod Calls
pub mod Makes
pub mod InMemory
