-- The line of a record is read as what the record says.
pub mod Plain
pub mod Words
pub mod Written
pub mod Lines
pub mod Read
pub mod Whole
