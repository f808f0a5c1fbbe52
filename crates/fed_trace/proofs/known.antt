-- What is known of a call.
pub mod Facts
pub mod Asked
pub mod Stages
pub mod Known
pub mod Kinds
