-- What is found, and what changes, by the places of calls.
pub mod Items
