pub mod kept
pub mod waits
pub mod clauses
pub mod stands
pub mod events
pub mod linked
pub mod shown
