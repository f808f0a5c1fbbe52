-- Accounts by their ids.
pub mod Firsts
pub mod Distinct
pub mod Kept
pub mod Reading
