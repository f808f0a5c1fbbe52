-- Texts and numbers as JSON values.
pub mod Ascii
pub mod Float
