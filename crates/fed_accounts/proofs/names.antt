-- The members of an entry by their names.
pub mod Found
