pub mod lists
pub mod numbers
pub mod removals
