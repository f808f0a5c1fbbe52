-- The laws of the traces of scripts.
pub mod Scripts
