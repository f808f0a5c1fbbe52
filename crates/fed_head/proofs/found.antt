-- What httparse answers.
pub mod Found
