-- What calls know, do and say is of good URLs and texts.
pub mod Jar
pub mod Fields
pub mod Does
pub mod Known
pub mod Rows
pub mod Begins
pub mod Rest
pub mod Lines
