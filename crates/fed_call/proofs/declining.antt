-- Inputs that a call does not take.
pub mod Quiet
