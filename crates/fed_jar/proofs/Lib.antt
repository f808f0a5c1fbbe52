pub mod order
pub mod keys
pub mod texts
pub mod changes
pub mod parties
pub mod limit
pub mod parts
