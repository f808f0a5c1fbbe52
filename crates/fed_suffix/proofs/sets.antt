-- Sets of rules.
pub mod Set
