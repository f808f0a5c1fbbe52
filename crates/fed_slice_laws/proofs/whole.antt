-- Whole scripts and their slices.
pub mod Members
pub mod Fit
pub mod Filter
pub mod Read
pub mod Lines
pub mod Records
pub mod One
