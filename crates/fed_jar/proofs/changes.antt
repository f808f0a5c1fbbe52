pub mod Changes
pub mod Last
