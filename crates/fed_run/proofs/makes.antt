-- The script of `make N`, and what is counted of its run.
pub mod Lines
pub mod Few
pub mod Tally
