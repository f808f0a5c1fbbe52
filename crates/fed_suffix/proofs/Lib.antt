pub mod labels
pub mod rules
pub mod nodes
pub mod sets
