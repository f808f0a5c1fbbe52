pub mod kept
pub mod runs
pub mod others
