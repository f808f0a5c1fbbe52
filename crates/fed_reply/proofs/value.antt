-- The JSON value of a body.
pub mod Json
pub mod Trim
pub mod Texts
