-- A comparison of the own records finds nothing.
pub mod Said
pub mod Early
pub mod Alike
