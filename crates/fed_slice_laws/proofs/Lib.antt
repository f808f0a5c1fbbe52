pub mod lists
pub mod looks
pub mod calls
pub mod rows
pub mod whole
