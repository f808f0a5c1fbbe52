-- Slots, as entries come, change and go.
pub mod Places
pub mod Lists
pub mod Written
pub mod Closed
pub mod Changes
pub mod Standing
