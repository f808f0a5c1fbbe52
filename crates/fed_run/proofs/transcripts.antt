-- A script and a transcript in one input.
pub mod Walk
pub mod Within
pub mod Alone
pub mod Reads
