-- What an event does.
pub mod Aside
pub mod Own
pub mod Most
