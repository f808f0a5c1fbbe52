-- Two halves that run alike.
pub mod Alike
