pub mod members
pub mod consents
pub mod follows
pub mod forms
pub mod verdicts
pub mod rows
pub mod sayings
