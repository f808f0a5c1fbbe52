pub mod runs
pub mod texts
