pub mod urls
pub mod words
