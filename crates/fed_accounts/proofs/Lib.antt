pub mod ids
pub mod lists
pub mod names
pub mod reselection
