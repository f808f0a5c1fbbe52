pub mod files
pub mod promises
pub mod kept
